-- `Hand::is_full` meets its contract.
use Rattle.workers.proofs.HandLaws.{full_is}
use Rattle.workers.proofs.Hand.is_full.Goals as goal

pub returns : goal.returns
returns c = full_is _
