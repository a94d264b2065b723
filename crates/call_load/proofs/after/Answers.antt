-- `after` meets its contract.
use Rattle.std.proofs.Common.{rules}
use Rattle.plant.proofs.Formed.{form_with_store}
use Rattle.call_load.proofs.Laws.{left_alone, made}
use Rattle.call_load.proofs.after.Goals as goal

pub returns-in-Some-clause-shows : goal.returns-in-Some-clause-shows
returns-in-Some-clause-shows c = search (made, rules)

pub returns-in-Some-clause-form : goal.returns-in-Some-clause-form
returns-in-Some-clause-form c = search (form_with_store, rules)

pub returns-in-None-clause-shows : goal.returns-in-None-clause-shows
returns-in-None-clause-shows c = search (left_alone, rules)
