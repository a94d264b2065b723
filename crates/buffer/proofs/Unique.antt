-- Two buffers in form that show the same are equal.
use mathlib.Core.Path.{◌≡◌}
use mathlib.Core.Bool.{true}
use mathlib.Core.List.{[]}
use Rattle.lists.proofs.Forms.{table_unique}
use Rattle.buffer.specs.batch.View.{view_batch}
use Rattle.buffer.specs.batch.Form.{batch_form, is_unused}
use Rattle.buffer.specs.declared.batch.Batch.{Batch}
use Rattle.buffer.proofs.batch.Unique.{batch_unique, unused_unique}
use Rattle.buffer.specs.View.{view_buffer}
use Rattle.buffer.specs.Form.{buffer_form}
use Rattle.buffer.specs.declared.Buffer.{Buffer}

pub buffer_unique : (a b : Buffer) → buffer_form a ≡ true → buffer_form b ≡ true → view_buffer a ≡ view_buffer b → a ≡ b
unfolding view_buffer buffer_form
buffer_unique a b f g e = λ i. record { count = both.0 i; batches = both.1 i }
  where
    none : Batch
    none = record { number = 0; changes = record { count = 0; items = [] } }

    both : (a.count ≡ b.count) × (a.batches ≡ b.batches)
    both = table_unique 32 batch_form is_unused view_batch batch_unique unused_unique none a.count b.count a.batches b.batches f g e
