-- `Session::bare` meets its contract.
use Rattle.sessions.proofs.session.SessionLaws.{bare_shows}
use Rattle.sessions.proofs.session.FormLaws.{bare_form}
use Rattle.sessions.proofs.session.Session.bare.Goals as goal

pub returns-clause-shows : goal.returns-clause-shows
returns-clause-shows c = search bare_shows

pub returns-clause-form : goal.returns-clause-form
returns-clause-form c = search bare_form
