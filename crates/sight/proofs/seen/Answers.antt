-- `seen` meets its contract.
use Rattle.sight.proofs.SeenLaws.{run_from}
use Rattle.sight.proofs.seen.Goals as goal

pub returns-clause-shows : goal.returns-clause-shows
returns-clause-shows c = search run_from

pub returns-clause-form : goal.returns-clause-form
returns-clause-form c = λ f. c.run.ensures.form (c.carried-now.ensures.form f)
