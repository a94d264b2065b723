-- `Queue::is_leased` meets its contract.
use Rattle.workers.proofs.QueueLaws.{leased_is}
use Rattle.workers.proofs.Queue.is_leased.Goals as goal

pub returns : goal.returns
returns c = leased_is _
