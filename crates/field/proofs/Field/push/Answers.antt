-- A member put last.
use borrow.Author.Rules.{rules}
use Rattle.std.proofs.lemmas.Result.{err_from_is_err_and}
use Rattle.field.proofs.ChangeLaws.{push_number, push_full, push_room, push_form}
use Rattle.field.proofs.Field.push.Goals as goal

pub returns-in_err-n-clause-shows : goal.returns-in_err-n-clause-shows
returns-in_err-n-clause-shows c =
    let p = err_from_is_err_and c.from_residual.result c.from_residual.ensures.1 in
    rw (p.1, p.2) (search (push_number, rules))

pub returns-then-n-ge-LIMIT-clause-shows : goal.returns-then-n-ge-LIMIT-clause-shows
returns-then-n-ge-LIMIT-clause-shows c = search (push_full, rules)

pub returns-clause-shows : goal.returns-clause-shows
returns-clause-shows c = search (push_room, rules)

pub returns-clause-form : goal.returns-clause-form
returns-clause-form c = search (push_form, rules)
