-- `Sessions::empty` meets its contract.
use Rattle.sessions.proofs.SessionsLaws.{none_shown, none_form}
use Rattle.sessions.proofs.Sessions.empty.Goals as goal

pub returns-clause-shows : goal.returns-clause-shows
returns-clause-shows c = none_shown _

pub returns-clause-form : goal.returns-clause-form
returns-clause-form c = none_form _ c.empty.ensures.form
