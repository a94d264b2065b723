-- `Session::holds_exclusive` meets its contract.
use Rattle.sessions.proofs.session.SessionLaws.{holds_exclusive_is}
use Rattle.sessions.proofs.session.Session.holds_exclusive.Goals as goal

pub returns : goal.returns
returns c = search holds_exclusive_is
