-- `Session::with_shared` meets its contract.
use Rattle.sessions.proofs.session.SessionLaws.{share_past, share_held, share_new}
use Rattle.sessions.proofs.session.FormLaws.{share_form}
use borrow.Author.Rules.{rules}
use Rattle.sessions.proofs.session.Session.with_shared.Goals as goal

pub returns-then-not-holds-clause-shows : goal.returns-then-not-holds-clause-shows
returns-then-not-holds-clause-shows c = search (share_new, rules)

pub returns-then-not-holds-clause-form : goal.returns-then-not-holds-clause-form
returns-then-not-holds-clause-form c = search (share_form, rules)

pub returns-else-at-lt-DOCUMENTS-clause-shows : goal.returns-else-at-lt-DOCUMENTS-clause-shows
returns-else-at-lt-DOCUMENTS-clause-shows c = search (share_past, share_held, rules)
