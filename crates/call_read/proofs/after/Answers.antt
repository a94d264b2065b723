-- `after` meets its contract.
use Rattle.call_read.proofs.Laws.{leaves, leaves_form}
use Rattle.arguments.proofs.Numbers.{or_number}
use borrow.Author.Rules.{rules}
use Rattle.call_read.proofs.after.Goals as goal

pub returns-clause-shows : goal.returns-clause-shows
returns-clause-shows c = search (leaves, or_number, rules)

pub returns-clause-form : goal.returns-clause-form
returns-clause-form c = λ f. leaves_form _ _ (c.cached-cache.ensures.form f) c.shared-sessions.ensures.form
