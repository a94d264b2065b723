-- `after` meets its contract.
use Rattle.call_advance.proofs.Laws.{gone_on_lem, gone_on_form}
use borrow.Author.Rules.{rules}
use Rattle.call_advance.proofs.after.Goals as goal

pub returns-clause-shows : goal.returns-clause-shows
returns-clause-shows c = search (gone_on_lem, rules)

pub returns-clause-form : goal.returns-clause-form
returns-clause-form c = search (gone_on_form, rules)
