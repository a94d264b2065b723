-- The invariant and the measure of the loop of `tell_all`.
use Prim.Native.Nat.{◌-◌}
use Rattle.calls.specs.View.{list_limit}
use Rattle.line_answer.proofs.Laws.{Telling}
use Rattle.line_answer.proofs.tell_all.Given as goal

abbrev pub invariant-loop-i : goal.invariant-loop-i
invariant-loop-i l = Telling l.n l.told l.words l.initial.out l.out l.wrote l.i l.at

abbrev pub decreases-loop-i : goal.decreases-loop-i
decreases-loop-i l = list_limit - l.i
