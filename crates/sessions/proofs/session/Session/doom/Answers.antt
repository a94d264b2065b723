-- `Session::doom` meets its contract.
use Rattle.sessions.proofs.session.SessionLaws.{remade_doomed}
use Rattle.sessions.proofs.session.FormLaws.{bare_session}
use Rattle.sessions.proofs.session.Session.doom.Goals as goal

pub returns-clause-shows : goal.returns-clause-shows
returns-clause-shows c = search remade_doomed

pub returns-clause-form : goal.returns-clause-form
returns-clause-form c = search bare_session
