-- `Key::shown` meets its contract.
use Rattle.std.proofs.Common.{◌∙◌, ap, sym, map}
use Rattle.lists.proofs.Iterators.{counted_taken}
use Rattle.keys.specs.View.{view_place, view_key}
use Rattle.keys.proofs.Key.shown.Goals as goal

pub returns : goal.returns
unfolding view_key
returns c = ap (map view_place) c.used.ensures ∙ sym (counted_taken _ _ _)
