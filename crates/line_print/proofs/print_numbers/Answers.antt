-- `print_numbers` meets its contract.
use lib.IntN.{pos}
use lib.ListN.{length-map}
use native.Mathlib.Omega.{arith}
use borrow.Author.Rules.{rules}
use Rattle.line_print.proofs.LineLaws.{print_start, print_next, print_end, number_at}
use Rattle.line_print.proofs.print_numbers.Goals as goal

pub loop-i-init : goal.loop-i-init
loop-i-init c = print_start _ _ (simp length-map (omega arith))

pub loop-i-preserved : goal.loop-i-preserved
loop-i-preserved c = print_next c.loop-i.invariant (pos 0) _ _ (simp length-map (omega arith)) (search (number_at, rules)) c.number.ensures

pub returns : goal.returns
returns c = print_end c.loop-i.invariant (simp length-map (omega arith))
