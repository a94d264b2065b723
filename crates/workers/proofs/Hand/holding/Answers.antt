-- `Hand::holding` meets its contract.
use Rattle.workers.specs.Form.{hand_form}
use Rattle.workers.specs.View.{view_hand}
use mathlib.Core.Path.{refl}
use Rattle.workers.proofs.Hand.holding.Goals as goal

pub returns-clause-shows : goal.returns-clause-shows
unfolding view_hand hand_form
returns-clause-shows c = refl

pub returns-clause-form : goal.returns-clause-form
unfolding view_hand hand_form
returns-clause-form c = refl
