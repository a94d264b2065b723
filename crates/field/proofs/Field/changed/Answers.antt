-- The change of a number: a set and an unset, whatever the field was.
use borrow.Author.Rules.{rules}
use Rattle.field.proofs.ChangeLaws.{changed_set, changed_unset}
use Rattle.field.proofs.Field.changed.Goals as goal

pub returns-in-1-clause-shows : goal.returns-in-1-clause-shows
returns-in-1-clause-shows c = search (changed_set, rules)

pub returns-in-2-clause-shows : goal.returns-in-2-clause-shows
returns-in-2-clause-shows c = search (changed_unset, rules)
