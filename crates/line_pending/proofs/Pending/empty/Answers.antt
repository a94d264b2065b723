-- `Pending::empty` meets its contract.
use mathlib.Core.Path.{refl}
use Rattle.line_pending.specs.View.{view_pending, pending_form}
use Rattle.line_pending.proofs.Pending.empty.Goals as goal

pub returns-clause-shows : goal.returns-clause-shows
unfolding view_pending pending_form
returns-clause-shows c = refl

pub returns-clause-form : goal.returns-clause-form
unfolding view_pending pending_form
returns-clause-form c = refl
