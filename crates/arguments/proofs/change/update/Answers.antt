-- `update` meets its contract.
use Rattle.std.proofs.Common.{rules}
use Rattle.changes.specs.View.{view_update}
use Rattle.changes.specs.Form.{is_used}
use Rattle.arguments.proofs.change.update.Goals as goal

pub returns-clause-shows : goal.returns-clause-shows
unfolding view_update
returns-clause-shows c = search rules

pub returns-clause-form : goal.returns-clause-form
unfolding is_used
returns-clause-form c = search rules
