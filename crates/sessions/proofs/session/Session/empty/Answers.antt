-- `Session::empty` meets its contract.
use Rattle.sessions.proofs.session.SessionLaws.{session_of_lem}
use Rattle.sessions.proofs.session.FormLaws.{unused_is}
use Rattle.sessions.proofs.session.Session.empty.Goals as goal

pub returns-clause-shows : goal.returns-clause-shows
returns-clause-shows c = session_of_lem _ _ c.bare.ensures.shows

pub returns-clause-form : goal.returns-clause-form
returns-clause-form c = search unused_is
