-- A buffered session as the rules see it, for every value of the struct.
use Rattle.std.specs.Prelude.{ℕ, cond, List}
use Rattle.rules.specs.Lists.{has}
use Rattle.rules.specs.Values as S
use Rattle.rules.specs.Changes as C
use Rattle.rules.specs.Tables as M
use Rattle.changes.specs.View.{view_changes}
use Rattle.buffer.specs.declared.batch.Batch.{Batch}

unfoldable pub view_batch : Batch → M.Batch
view_batch b = record { number = b.number; changes = view_changes b.changes }

-- a place's field after a buffered session, if it has no row
unfoldable pub carry : List ℕ → S.Place → S.Field → M.Batch → S.Field
carry rows q f b = cond (has b.number rows) f (C.run b.changes q f)
