-- The one form of a buffered session; one that is not in use has number 0 and no changes.
use Rattle.std.specs.Prelude.{Bool, ◌&&◌, eqb}
use Rattle.rules.specs.Lists.{is_empty}
use Rattle.changes.specs.View.{view_changes}
use Rattle.changes.specs.Form.{changes_form}
use Rattle.buffer.specs.declared.batch.Batch.{Batch}

unfoldable pub batch_form : Batch → Bool
batch_form b = changes_form b.changes

unfoldable pub is_unused : Batch → Bool
is_unused b = eqb b.number 0 && is_empty (view_changes b.changes) && changes_form b.changes
