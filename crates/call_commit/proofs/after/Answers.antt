-- `after` meets its contract.
use Rattle.call_commit.proofs.Laws.{commits, commits_form}
use borrow.Author.Rules.{rules}
use Rattle.call_commit.proofs.after.Goals as goal

pub returns-clause-shows : goal.returns-clause-shows
returns-clause-shows c = search (commits, rules)

pub returns-clause-form : goal.returns-clause-form
returns-clause-form c = search (commits_form, rules)
