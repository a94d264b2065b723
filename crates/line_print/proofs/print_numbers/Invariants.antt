-- The invariant of the loop of `print_numbers`.
use mathlib.Core.List.{map}
use lib.IntN.{pos}
use Rattle.line_print.proofs.LineLaws.{Printing}
use Rattle.line_print.proofs.print_numbers.Given as goal

abbrev pub invariant-loop-i : goal.invariant-loop-i
invariant-loop-i l = Printing (map pos l.numbers) l.initial.out l.out l.i
