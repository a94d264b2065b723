-- `removed` meets its contract.
use mathlib.Core.Path.{◌≡◌}
use mathlib.Core.List.{map}
use Rattle.rows.specs.View.{view_rows}
use Rattle.call_sweep.proofs.removed.Given as goal

abbrev pub invariant-loop-n : goal.invariant-loop-n
invariant-loop-n l = view_rows l.gone ≡ map (λ y. y.now) l.yielded
