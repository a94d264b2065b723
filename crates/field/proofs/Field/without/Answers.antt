-- The list of the values that do not equal another.
use borrow.Author.Rules.{rules}
use Rattle.field.proofs.ChangeLaws.{pull_start, pull_in, pull_out, pulled, pulled_form}
use Rattle.field.proofs.Field.without.Goals.{then-x-v, else-x-v}
use Rattle.field.proofs.Field.without.Goals as goal

pub loop-x-init : goal.loop-x-init
loop-x-init c = search (pull_start, rules)

pub loop-x-preserved : goal.loop-x-preserved
loop-x-preserved c =
    let a = c.args in
    let inv = c.loop-x.invariant in
    let e = c.members-x-items.ensures.shows in
    elim c.if-x-v.branch [
      | then-x-v w ↦ rw (w.n-is, w.kept-is) (pull_in a.self a.v (search rules) (search rules) inv e (search rules) (search rules) w.if-x-v.true w.push.ensures.one_more w.push.ensures.item)
      | else-x-v w ↦ rw (w.n-is, w.kept-is) (pull_out a.self a.v (search rules) (search rules) inv e (search rules) (search rules) w.if-x-v.false)
    ]

pub returns-clause-shows : goal.returns-clause-shows
returns-clause-shows c = search (pulled, rules)

pub returns-clause-form : goal.returns-clause-form
returns-clause-form c = search (pulled_form, rules)
