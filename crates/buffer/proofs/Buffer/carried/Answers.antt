-- `Buffer::carried` meets its contract.
use mathlib.Core.Path.{ap}
use mathlib.Core.Bool.{not}
use Rattle.lists.proofs.Iterators.{fold_rest, fold_next, fold_end}
use Rattle.buffer.specs.View.{view_buffer}
use Rattle.buffer.proofs.batch.BatchLaws.{carried_past, carried_row, carried_now}
use Rattle.buffer.proofs.BufferLaws.{run_pending}
use Rattle.buffer.proofs.Buffer.carried.Goals.{then-touches+then-not-has, else-touches, else-touches-via-then-touches+else-not-has, else-touches-via-else-touches}
use Rattle.buffer.proofs.Buffer.carried.Goals as goal

pub loop-b-init : goal.loop-b-init
unfolding view_buffer
loop-b-init c = record {
  shows = fold_rest _ _ _ c.used-batches.ensures c.min-first.ensures (run_pending _ _ _ _);
  form = λ f. f;
}

pub loop-b-preserved : goal.loop-b-preserved
loop-b-preserved c =
    let inv = c.loop-b.invariant in
    let more = c.loop-b-test.true in
    elim c.if-touches.branch [
      | then-touches+then-not-has w ↦ rw w.now-is record { shows = fold_next inv.shows _ more (carried_now _ _ _ _ w.has.ensures (ap not w.if-not-has.true) w.run-now.ensures.shows); form = λ f. w.run-now.ensures.form (inv.form f) }
      | else-touches w ↦ rw w.now-is record {
        shows = fold_next inv.shows _ more (elim w.else-touches.branch [
          | else-touches-via-then-touches+else-not-has v ↦ carried_row _ _ _ _ v.has.ensures (ap not v.if-not-has.false)
          | else-touches-via-else-touches v ↦ carried_past _ _ _ _ c.touches.ensures v.if-touches.false
        ]);
        form = inv.form;
      }
    ]

pub returns-clause-shows : goal.returns-clause-shows
returns-clause-shows c = fold_end c.loop-b.invariant.shows c.loop-b-test.false
