-- `Queue::ended` meets its contract.
use Rattle.workers.proofs.QueueLaws.{end_own, end_other}
use Rattle.workers.proofs.Queue.ended.Goals as goal

pub returns-then-not-is_owned_by-clause-shows : goal.returns-then-not-is_owned_by-clause-shows
returns-then-not-is_owned_by-clause-shows c = search end_other

pub returns-clause-shows : goal.returns-clause-shows
returns-clause-shows c = search end_own
