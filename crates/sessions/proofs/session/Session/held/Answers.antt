-- `Session::held` meets its contract.
use Rattle.sessions.proofs.session.SessionLaws.{union_held}
use Rattle.sessions.proofs.session.Session.held.Goals as goal

pub returns : goal.returns
returns c = union_held _ _ c.union.ensures
