-- The absent field.
use mathlib.Core.Path.{refl}
use Rattle.lists.specs.Table.{table_form}
use Rattle.field.specs.View.{view_field, field_form}
use Rattle.field.proofs.Field.empty.Goals as goal

pub returns-clause-shows : goal.returns-clause-shows
unfolding view_field field_form table_form
returns-clause-shows c = refl

pub returns-clause-form : goal.returns-clause-form
unfolding view_field field_form table_form
returns-clause-form c = refl
