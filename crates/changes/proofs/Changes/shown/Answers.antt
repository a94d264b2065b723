-- `Changes::shown` meets its contract.
use mathlib.Core.Path.{sym, ◌∙◌, ap}
use mathlib.Core.List.{map}
use Rattle.lists.proofs.Iterators.{counted_taken}
use Rattle.changes.specs.View.{view_update, view_changes}
use Rattle.changes.proofs.Changes.shown.Goals as goal

pub returns : goal.returns
unfolding view_changes
returns c = ap (map view_update) c.used.ensures ∙ sym (counted_taken view_update _ _)
