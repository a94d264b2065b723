-- `Server::start` meets its contract.
use Rattle.line_server.proofs.Laws.{kept_start}
use Rattle.line_server.proofs.Server.start.Goals as goal

pub returns-clause-shows : goal.returns-clause-shows
returns-clause-shows c = c.empty-plant.ensures.shows

pub returns-clause-empty : goal.returns-clause-empty
returns-clause-empty c = c.empty-pending.ensures.shows

pub returns-clause-kept : goal.returns-clause-kept
returns-clause-kept c = kept_start _ _ _ _ c.empty-plant.ensures.kept c.empty-pending.ensures.shows
