-- The invariant and the measure of the loop of `run_all`: so many of the calls are run.
use Prim.Native.Nat.{◌-◌}
use Rattle.calls.specs.View.{view_calls}
use Rattle.entry.proofs.RunAll.{Running}
use Rattle.entry.proofs.run_all.Given as goal

abbrev pub invariant-loop-i : goal.invariant-loop-i
invariant-loop-i l = Running l.share l.initial.p (view_calls l.calls) l.initial.words l.told l.words l.i l.at l.p

abbrev pub decreases-loop-i : goal.decreases-loop-i
decreases-loop-i l = l.end - l.i
