-- `Session::any_lapsed` meets its contract.
use Rattle.sessions.proofs.session.LapseLaws.{lapsed_early, lapsed_late}
use Rattle.sessions.proofs.session.Session.any_lapsed.Goals as goal

pub returns-then-ended : goal.returns-then-ended
returns-then-ended c = lapsed_late _ _ _ c.ended.ensures _ _ c.if-ended.true c.held.ensures c.any_over.ensures

pub returns-else-ended : goal.returns-else-ended
returns-else-ended c = lapsed_early _ _ _ c.ended.ensures c.if-ended.false
