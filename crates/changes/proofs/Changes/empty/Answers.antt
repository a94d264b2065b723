-- `Changes::empty` meets its contract.
use mathlib.Core.Path.{refl}
use Rattle.lists.specs.Table.{counted}
use Rattle.changes.specs.View.{view_changes}
use Rattle.changes.proofs.ChangeLaws.{changes_empty}
use Rattle.changes.proofs.Changes.empty.Goals as goal

pub returns-clause-shows : goal.returns-clause-shows
unfolding view_changes counted
returns-clause-shows c = refl

pub returns-clause-form : goal.returns-clause-form
unfolding view_changes counted
returns-clause-form c = changes_empty _ c.empty.ensures
