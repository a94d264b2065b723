-- `Key::empty` meets its contract.
use mathlib.Core.Path.{refl}
use Rattle.lists.specs.Table.{counted}
use Rattle.keys.specs.View.{view_key}
use Rattle.keys.proofs.KeyLaws.{key_form_empty}
use Rattle.keys.proofs.Key.empty.Goals as goal

pub returns-clause-shows : goal.returns-clause-shows
unfolding view_key counted
returns-clause-shows c = refl

pub returns-clause-form : goal.returns-clause-form
unfolding view_key counted
returns-clause-form c = key_form_empty _ c.empty.ensures.form
