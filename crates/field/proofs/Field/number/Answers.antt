-- The field of a number.
use mathlib.Core.Path.{refl}
use mir.Facts.{to_z-of_z}
use Rattle.lists.specs.Table.{table_form}
use Rattle.field.proofs.Signed.{fits_are}
use Rattle.field.specs.View.{view_field, field_form}
use Rattle.field.proofs.Field.number.Goals as goal

pub returns : goal.returns
unfolding view_field field_form table_form
returns c = let w = c.ranges.v in simp (to_z-of_z w, fits_are _ w) (record { shows = refl; form = refl })
