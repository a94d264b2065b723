-- `after` meets its contract.
use Rattle.call_sweep.proofs.Laws.{rows_left_lem, left_form}
use borrow.Author.Rules.{rules}
use Rattle.call_sweep.proofs.after.Goals as goal

pub returns-clause-shows : goal.returns-clause-shows
returns-clause-shows c = search (rows_left_lem, rules)

pub returns-clause-form : goal.returns-clause-form
returns-clause-form c = search (left_form, rules)
