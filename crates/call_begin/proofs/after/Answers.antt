-- `after` meets its contract.
use Rattle.call_begin.proofs.Laws.{not-spent, opens, opens_form}
use borrow.Author.Rules.{rules}
use Rattle.call_begin.proofs.after.Goals as goal

pub returns-then-next-gt-LAST_SESSION-clause-shows : goal.returns-then-next-gt-LAST_SESSION-clause-shows
returns-then-next-gt-LAST_SESSION-clause-shows c = search (not-spent, rules)

pub returns-then-next-gt-LAST_SESSION-clause-form : goal.returns-then-next-gt-LAST_SESSION-clause-form
returns-then-next-gt-LAST_SESSION-clause-form c = λ f. f

pub returns-clause-shows : goal.returns-clause-shows
returns-clause-shows c = search (opens, rules)

pub returns-clause-form : goal.returns-clause-form
returns-clause-form c = search (opens_form, rules)
