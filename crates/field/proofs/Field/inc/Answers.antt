-- A number added to a field.
use borrow.Author.Rules.{rules}
use Rattle.std.proofs.lemmas.Result.{err_from_is_err_and}
use Rattle.field.proofs.ChangeLaws.{inc_absent, inc_list, inc_over, inc_sum}
use Rattle.field.proofs.Field.inc.Goals as goal

pub returns-in_err-sum-in-1-clause-shows : goal.returns-in_err-sum-in-1-clause-shows
returns-in_err-sum-in-1-clause-shows c =
    let p = err_from_is_err_and c.from_residual.result c.from_residual.ensures.1 in
    rw (p.1, p.2) (search (inc_over, rules))

pub returns-in-0-clause-shows : goal.returns-in-0-clause-shows
returns-in-0-clause-shows c = search (inc_absent, rules)

pub returns-in_ok-sum-in-1-clause-shows : goal.returns-in_ok-sum-in-1-clause-shows
returns-in_ok-sum-in-1-clause-shows c = search (inc_sum, rules)

pub returns-in_default-clause-shows : goal.returns-in_default-clause-shows
returns-in_default-clause-shows c = search (inc_list, rules)
