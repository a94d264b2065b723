-- The invariant of the loop of `numbers_of`.
use Rattle.line_parse.proofs.NumberLaws.{Collecting}
use Rattle.line_parse.proofs.numbers_of.Given as goal

abbrev pub invariant-loop-i : goal.invariant-loop-i
invariant-loop-i l = Collecting l.line l.count l.numbers l.i
