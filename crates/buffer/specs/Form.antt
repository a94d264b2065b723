-- The one form of the buffer: what is not in use has number 0 and no changes.
use Rattle.std.specs.Prelude.{Bool}
use Rattle.rules.specs.Limits.{buffer_limit}
use Rattle.lists.specs.Table.{table_form}
use Rattle.buffer.specs.batch.Form.{batch_form, is_unused}
use Rattle.buffer.specs.declared.Buffer.{Buffer}

unfoldable pub buffer_form : Buffer → Bool
buffer_form t = table_form buffer_limit batch_form is_unused t.count t.batches
