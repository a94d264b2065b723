-- `Update::empty` meets its contract.
use Rattle.changes.proofs.ChangeLaws.{unused_is}
use Rattle.changes.proofs.Update.empty.Goals as goal

pub returns : goal.returns
returns c = unused_is _ c.empty.ensures.form
