-- `Session::with_last` meets its contract.
use Rattle.sessions.proofs.session.SessionLaws.{last_shows}
use Rattle.sessions.proofs.session.FormLaws.{last_form}
use Rattle.sessions.proofs.session.Session.with_last.Goals as goal

pub returns-clause-shows : goal.returns-clause-shows
returns-clause-shows c = search last_shows

pub returns-clause-form : goal.returns-clause-form
returns-clause-form c = λ u. last_form _ _ (c.push-self.ensures.form u)
