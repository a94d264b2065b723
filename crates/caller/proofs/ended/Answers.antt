-- `ended` meets its contract.
use Rattle.plant.proofs.Formed.{form_with_sessions}
use Rattle.caller.proofs.Laws.{ended_shows}
use borrow.Author.Rules.{rules}
use Rattle.caller.proofs.ended.Goals as goal

pub returns-clause-shows : goal.returns-clause-shows
returns-clause-shows c = search (ended_shows, rules)

pub returns-clause-form : goal.returns-clause-form
returns-clause-form c = search (form_with_sessions, rules)
