-- `Hand::answered` meets its contract.
use Rattle.workers.specs.Form.{hand_form}
use Rattle.workers.specs.View.{view_hand}
use Rattle.rules.specs.Tables as M
use mathlib.Core.Bool.{true}
use mathlib.Core.Path.{refl, ap}
use Rattle.workers.proofs.Hand.answered.Goals as goal

pub returns-clause-shows : goal.returns-clause-shows
unfolding view_hand hand_form
returns-clause-shows c = ap (λ n. M.holds n true) c.handed.ensures

pub returns-clause-form : goal.returns-clause-form
unfolding view_hand hand_form
returns-clause-form c = refl
