-- `Buffer::carried` meets its contract.
use mathlib.Core.Path.{◌≡◌}
use mathlib.Core.Bool.{true}
use lib.ListN.{drop}
use Rattle.rules.specs.Tables as M
use Rattle.rules.specs.Changes as C
use Rattle.keys.specs.View.{view_place}
use Rattle.field.specs.View.{view_field, field_form}
use Rattle.rows.specs.View.{view_rows}
use Rattle.lists.proofs.Iterators.{Folding}
use Rattle.buffer.specs.batch.View.{view_batch, carry}
use Rattle.buffer.specs.View.{view_buffer}
use Rattle.buffer.proofs.Buffer.carried.Given as goal

abbrev pub invariant-loop-b : goal.invariant-loop-b
invariant-loop-b l = record {
  shows : Folding view_batch (carry (view_rows l.rows) (view_place l.q)) l.b-items (C.run (M.changes_in (M.pending (view_rows l.rows) (drop l.from (view_buffer l.fn.self)))) (view_place l.q) (view_field l.fn.f)) (view_field l.now) l.b-index;
  form : field_form l.fn.f ≡ true → field_form l.now ≡ true;
}
