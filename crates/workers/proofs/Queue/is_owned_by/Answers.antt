-- `Queue::is_owned_by` meets its contract.
use Rattle.workers.specs.View.{owner_of}
use Rattle.workers.proofs.Queue.is_owned_by.Goals as goal

pub returns-then-self : goal.returns-then-self
unfolding owner_of
returns-then-self c = rw c.if-self.true

pub returns-else-self : goal.returns-else-self
unfolding owner_of
returns-else-self c = rw c.if-self.false
