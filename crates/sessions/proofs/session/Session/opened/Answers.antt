-- `Session::opened` meets its contract.
use Rattle.sessions.proofs.session.SessionLaws.{opened_shows}
use Rattle.sessions.proofs.session.FormLaws.{opened_form}
use Rattle.sessions.proofs.session.Session.opened.Goals as goal

pub returns-clause-shows : goal.returns-clause-shows
returns-clause-shows c = search opened_shows

pub returns-clause-form : goal.returns-clause-form
returns-clause-form c = search opened_form
