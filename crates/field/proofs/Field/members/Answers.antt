-- The values that count, kind by kind.
use mathlib.Core.Path.{◌∙◌}
use borrow.Author.Rules.{rules}
use Rattle.field.proofs.ViewLaws.{take_none, take_one, take_count}
use Rattle.field.proofs.Field.members.Goals as goal

pub returns-in-0-clause-shows : goal.returns-in-0-clause-shows
returns-in-0-clause-shows c = search (take_none, rules)

pub returns-in-1-clause-shows : goal.returns-in-1-clause-shows
returns-in-1-clause-shows c = search (take_one, rules)

pub returns-in_default-clause-shows : goal.returns-in_default-clause-shows
returns-in_default-clause-shows c = c.used.ensures ∙ search (take_count, rules)
