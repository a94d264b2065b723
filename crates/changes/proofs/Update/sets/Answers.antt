-- `Update::sets` meets its contract.
use Rattle.changes.proofs.ChangeLaws.{sets_here, sets_elsewhere}
use Rattle.changes.proofs.Update.sets.Goals as goal

pub returns-then-is_at : goal.returns-then-is_at
returns-then-is_at c = search sets_here

pub returns-else-is_at : goal.returns-else-is_at
returns-else-is_at c = search sets_elsewhere
