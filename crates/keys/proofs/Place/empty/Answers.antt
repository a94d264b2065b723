-- `Place::empty` meets its contract.
use mathlib.Core.Path.{refl}
use Rattle.keys.specs.View.{view_place}
use Rattle.keys.specs.Form.{is_blank}
use Rattle.keys.proofs.Place.empty.Goals as goal

pub returns-clause-shows : goal.returns-clause-shows
unfolding view_place is_blank
returns-clause-shows c = refl

pub returns-clause-form : goal.returns-clause-form
unfolding view_place is_blank
returns-clause-form c = refl
