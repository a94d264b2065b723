-- The buffer as the rules see it, for every value of the struct.
use Rattle.std.specs.Prelude.{List}
use Rattle.rules.specs.Tables as M
use Rattle.lists.specs.Table.{counted}
use Rattle.buffer.specs.batch.View.{view_batch}
use Rattle.buffer.specs.declared.Buffer.{Buffer}

unfoldable pub view_buffer : Buffer → List M.Batch
view_buffer t = counted view_batch t.count t.batches
