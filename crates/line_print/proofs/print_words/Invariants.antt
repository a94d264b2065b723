-- The invariant of the loop of `print_words`.
use Rattle.line_print.proofs.LineLaws.{Printing}
use Rattle.line_print.proofs.print_words.Given as goal

abbrev pub invariant-loop-i : goal.invariant-loop-i
invariant-loop-i l = Printing l.words l.initial.out l.out l.i
