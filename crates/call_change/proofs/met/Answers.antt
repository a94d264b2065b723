-- `met` meets its contract.
use borrow.Author.Rules.{rules}
use Rattle.answers.proofs.Passing.{passed_on}
use Rattle.call_change.proofs.Laws.{meets_none, meets_one}
use Rattle.call_change.proofs.met.Goals as goal

pub returns-in_err-met-clause-shows : goal.returns-in_err-met-clause-shows
returns-in_err-met-clause-shows c = search (passed_on, meets_one, rules)

pub returns-clause-shows : goal.returns-clause-shows
returns-clause-shows c = search (meets_none, rules)
