-- `walk::back` meets its contract.
use mathlib.Core.Path.{◌≡◌}
use mathlib.Core.Bool.{false}
use lib.ListN.{drop}
use Rattle.rules.specs.Changes as C
use Rattle.keys.specs.View.{view_place}
use Rattle.changes.specs.View.{view_changes}
use Rattle.buffer.specs.View.{view_buffer}
use Rattle.sight.proofs.walk.WalkLaws.{Walking}
use Rattle.sight.proofs.walk.back.Given as goal

abbrev pub invariant-loop-c : goal.invariant-loop-c
invariant-loop-c l = (l.looked ≡ l.initial.looked) × (C.sets_it (drop l.c (view_changes l.changes)) (view_place l.q) ≡ false)

abbrev pub decreases-loop-c : goal.decreases-loop-c
decreases-loop-c l = l.c

abbrev pub invariant-walk : goal.invariant-walk
invariant-walk l = Walking (view_buffer l.buffer) (view_changes l.initial.changes) (view_place l.q) (view_changes l.changes) l.from l.looked

abbrev pub decreases-walk : goal.decreases-walk
decreases-walk l = l.from
