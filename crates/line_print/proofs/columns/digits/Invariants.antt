-- The invariant of the loop of `digits`.
use Rattle.line_format.specs.Bytes.{number_width}
use Rattle.line_print.proofs.columns.ColumnLaws.{Filling}
use Rattle.line_print.proofs.columns.digits.Given as goal

abbrev pub invariant-loop-i : goal.invariant-loop-i
invariant-loop-i l = Filling l.negative l.n number_width l.initial.out l.out l.rest l.i
