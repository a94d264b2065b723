-- `Rows::empty` meets its contract.
use mathlib.Core.Path.{refl}
use Rattle.lists.specs.Table.{counted, table_form}
use Rattle.rows.specs.View.{view_rows, rows_form}
use Rattle.rows.proofs.Rows.empty.Goals as goal

pub returns-clause-shows : goal.returns-clause-shows
unfolding view_rows rows_form counted table_form
returns-clause-shows c = refl

pub returns-clause-form : goal.returns-clause-form
unfolding view_rows rows_form counted table_form
returns-clause-form c = refl
