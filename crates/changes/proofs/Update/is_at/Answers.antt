-- `Update::is_at` meets its contract.
use Rattle.changes.proofs.ChangeLaws.{at_is}
use Rattle.changes.proofs.Update.is_at.Goals as goal

pub returns : goal.returns
returns c = at_is _ _ c.is.ensures
