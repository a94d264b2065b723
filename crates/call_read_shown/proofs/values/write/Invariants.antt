-- `write` meets its contract.
use Prim.Native.Nat.{◌-◌}
use Rattle.cache.specs.cached.View.{view_cached}
use Rattle.call_read_shown.proofs.values.ValuesLaws.{Showing}
use Rattle.call_read_shown.proofs.values.write.Given as goal

abbrev pub invariant-loop-i : goal.invariant-loop-i
invariant-loop-i l = Showing (view_cached l.c).fields l.initial.words l.words l.i

abbrev pub decreases-loop-i : goal.decreases-loop-i
decreases-loop-i l = l.n - l.i
