-- A member put last where it is new.
use borrow.Author.Rules.{rules}
use Rattle.std.proofs.lemmas.Result.{err_from_is_err_and}
use Rattle.field.proofs.ChangeLaws.{add_number, add_member, add_new}
use Rattle.field.proofs.Field.add.Goals as goal

pub returns-in_err-list-clause-shows : goal.returns-in_err-list-clause-shows
returns-in_err-list-clause-shows c =
    let p = err_from_is_err_and c.from_residual.result c.from_residual.ensures.1 in
    rw (p.1, p.2) (search (add_number, rules))

pub returns-then-contains-clause-shows : goal.returns-then-contains-clause-shows
returns-then-contains-clause-shows c =
    let l = c.in_ok-list.ensures in
    add_member c.args.self c.args.v _ l.1 _ (search rules) l.0 c.contains.ensures.value (search rules)

pub returns-clause-shows : goal.returns-clause-shows
returns-clause-shows c =
    let l = c.in_ok-list.ensures in
    add_new c.args.self c.args.v _ l.1 _ (search rules) l.0 c.contains.ensures.value (search rules) (search rules)
