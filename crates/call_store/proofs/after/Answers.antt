-- `after` meets its contract.
use borrow.Author.Rules.{rules}
use Rattle.plant.proofs.Formed.{form_with_near}
use Rattle.call_store.proofs.Laws.{marked}
use Rattle.call_store.proofs.after.Goals as goal

pub returns-clause-shows : goal.returns-clause-shows
returns-clause-shows c = search (marked, rules)

pub returns-clause-form : goal.returns-clause-form
returns-clause-form c = search (form_with_near, rules)
