-- `Calls::none` meets its contract.
use mathlib.Core.Path.{refl}
use Rattle.lists.specs.Table.{counted}
use Rattle.calls.specs.View.{view_calls}
use Rattle.calls.proofs.Calls.none.Goals as goal

pub returns-clause-shows : goal.returns-clause-shows
unfolding view_calls counted
returns-clause-shows c = refl

pub returns-clause-entries : goal.returns-clause-entries
unfolding view_calls counted
returns-clause-entries c = (refl, refl)
