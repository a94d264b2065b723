-- `Queue::empty` meets its contract.
use Rattle.workers.specs.Form.{queue_form}
use Rattle.workers.specs.View.{view_queue}
use mathlib.Core.Path.{refl}
use Rattle.workers.proofs.Queue.empty.Goals as goal

pub returns-clause-shows : goal.returns-clause-shows
unfolding view_queue queue_form
returns-clause-shows c = refl

pub returns-clause-form : goal.returns-clause-form
unfolding view_queue queue_form
returns-clause-form c = refl
