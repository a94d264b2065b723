-- `after` meets its contract.
use Rattle.plant.proofs.Formed.{form_with_sessions}
use Rattle.call_change.proofs.Left.{changes}
use borrow.Author.Rules.{rules}
use Rattle.call_change.proofs.after.Goals as goal

pub returns-clause-shows : goal.returns-clause-shows
returns-clause-shows c = search (changes, rules)

pub returns-clause-form : goal.returns-clause-form
returns-clause-form c = form_with_sessions _ c.changed.result (c.changed.ensures.form c.made-c.ensures.form)
