-- `Queue::lapsed` meets its contract.
use borrow.Author.Rules.{rules}
use Rattle.workers.proofs.QueueLaws.{lapse_live, lapse_over}
use Rattle.workers.proofs.Queue.lapsed.Goals as goal

pub returns-then-ended-clause-shows : goal.returns-then-ended-clause-shows
returns-then-ended-clause-shows c = search (lapse_over, rules)

pub returns-else-ended-clause-shows : goal.returns-else-ended-clause-shows
returns-else-ended-clause-shows c = search (lapse_live, rules)
