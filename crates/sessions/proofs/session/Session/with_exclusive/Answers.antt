-- `Session::with_exclusive` meets its contract.
use Rattle.sessions.proofs.session.SessionLaws.{exclude_past, exclude_held, exclude_new}
use Rattle.sessions.proofs.session.FormLaws.{exclude_form}
use borrow.Author.Rules.{rules}
use Rattle.sessions.proofs.session.Session.with_exclusive.Goals as goal

pub returns-then-not-has-clause-shows : goal.returns-then-not-has-clause-shows
returns-then-not-has-clause-shows c = search (exclude_new, rules)

pub returns-then-not-has-clause-form : goal.returns-then-not-has-clause-form
returns-then-not-has-clause-form c = search (exclude_form, rules)

pub returns-else-at-lt-DOCUMENTS-clause-shows : goal.returns-else-at-lt-DOCUMENTS-clause-shows
returns-else-at-lt-DOCUMENTS-clause-shows c = search (exclude_past, exclude_held, rules)
