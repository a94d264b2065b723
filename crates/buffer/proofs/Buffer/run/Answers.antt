-- `Buffer::run` meets its contract.
use Rattle.buffer.proofs.BufferLaws.{run_none}
use Rattle.buffer.proofs.Buffer.run.Goals as goal

pub returns-clause-shows : goal.returns-clause-shows
returns-clause-shows c = search run_none

pub returns-clause-form : goal.returns-clause-form
returns-clause-form c = c.carried.ensures.form
