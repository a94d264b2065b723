-- `after` meets its contract.
use Rattle.call_abandon.proofs.Laws.{frees}
use borrow.Author.Rules.{rules}
use Rattle.call_abandon.proofs.after.Goals as goal

pub returns-clause-shows : goal.returns-clause-shows
returns-clause-shows c = search (frees, c.ended.ensures.shows, rules)

pub returns-clause-form : goal.returns-clause-form
returns-clause-form c = c.ended.ensures.form
