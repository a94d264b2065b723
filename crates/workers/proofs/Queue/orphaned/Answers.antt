-- `Queue::orphaned` meets its contract.
use Rattle.workers.proofs.QueueLaws.{cut_own, cut_other, cut_form}
use Rattle.workers.proofs.Queue.orphaned.Goals as goal

pub returns-then-is_owned_by-clause-shows : goal.returns-then-is_owned_by-clause-shows
returns-then-is_owned_by-clause-shows c = search cut_own

pub returns-then-is_owned_by-clause-form : goal.returns-then-is_owned_by-clause-form
returns-then-is_owned_by-clause-form c = cut_form _

pub returns-else-is_owned_by-clause-shows : goal.returns-else-is_owned_by-clause-shows
returns-else-is_owned_by-clause-shows c = search cut_other
