-- Every member that equals a value taken out.
use borrow.Author.Rules.{rules}
use Rattle.field.proofs.ChangeLaws.{pull_none, pull_number, pull_some}
use Rattle.field.proofs.Field.pull.Goals as goal

pub returns-in-0-clause-shows : goal.returns-in-0-clause-shows
returns-in-0-clause-shows c = search (pull_none, rules)

pub returns-in-1-clause-shows : goal.returns-in-1-clause-shows
returns-in-1-clause-shows c = search (pull_number, rules)

pub returns-in_default-clause-shows : goal.returns-in_default-clause-shows
returns-in_default-clause-shows c = search (pull_some, rules)
