-- `Pending::add` meets its contract.
use borrow.Author.Rules.{rules}
use Rattle.line_pending.specs.View.{view_pending, pending_form}
use Rattle.line_pending.proofs.Lent.{lent_between}
use Rattle.line_pending.proofs.Adding.{add_shows}
use Rattle.line_pending.proofs.Pending.add.Goals as goal

pub returns-clause-shows : goal.returns-clause-shows
unfolding view_pending pending_form
returns-clause-shows c = search (add_shows, lent_between, rules)

pub returns-clause-form : goal.returns-clause-form
unfolding view_pending pending_form
returns-clause-form c = search rules
