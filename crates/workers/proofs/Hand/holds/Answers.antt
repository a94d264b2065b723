-- `Hand::holds` meets its contract.
use Rattle.workers.specs.View.{view_hand}
use Rattle.workers.proofs.Hand.holds.Goals as goal

pub returns-then-self : goal.returns-then-self
unfolding view_hand
returns-then-self c = rw c.if-self.true

pub returns-else-self : goal.returns-else-self
unfolding view_hand
returns-else-self c = rw c.if-self.false
