-- `Update::after` meets its contract.
use borrow.Author.Rules.{rules}
use Rattle.field.proofs.Claims.{kept_field, kept_form}
use Rattle.changes.proofs.ChangeLaws.{after_here, after_elsewhere}
use Rattle.changes.proofs.Update.after.Goals as goal

pub returns-then-is_at-clause-shows : goal.returns-then-is_at-clause-shows
returns-then-is_at-clause-shows c = rw c.unwrap_or.ensures (search (after_here, kept_field, rules))

pub returns-then-is_at-clause-form : goal.returns-then-is_at-clause-form
returns-then-is_at-clause-form c = rw c.unwrap_or.ensures (kept_form _ _ c.changed.ensures.form)

pub returns-clause-shows : goal.returns-clause-shows
returns-clause-shows c = search after_elsewhere
