-- `Batch::empty` meets its contract.
use Rattle.buffer.proofs.batch.BatchLaws.{unused_is}
use Rattle.buffer.proofs.batch.Batch.empty.Goals as goal

pub returns : goal.returns
returns c = unused_is _ c.empty-changes.ensures.shows c.empty-changes.ensures.form
