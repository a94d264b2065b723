-- `Session::lost` meets its contract.
use Rattle.sessions.proofs.session.LapseLaws.{lost_now, lost_not}
use Rattle.sessions.proofs.session.Session.lost.Goals as goal

pub returns-then-lapses : goal.returns-then-lapses
returns-then-lapses c = search lost_now

pub returns-else-lapses : goal.returns-else-lapses
returns-else-lapses c = search lost_not
