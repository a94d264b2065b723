-- `Store::follow` meets its contract. The store has the changes before c and keeps the form.
use Rattle.lists.proofs.Iterators.{fold_used, fold_next, fold_end}
use Rattle.changes.specs.View.{view_changes}
use Rattle.store.proofs.StoreLaws.{view_ranged, follow_fold}
use Rattle.store.proofs.Store.follow.Goals as goal

pub loop-c-init : goal.loop-c-init
unfolding view_changes
loop-c-init c = record { shows = fold_used _ _ c.used-c-items.ensures (follow_fold _ _ (view_ranged _)); form = λ f. f }

pub loop-c-preserved : goal.loop-c-preserved
loop-c-preserved c =
    let inv = c.loop-c.invariant in
    record { shows = fold_next inv.shows _ c.loop-c-test.true c.make.ensures.shows; form = λ f. c.make.ensures.form (inv.form f) }

pub returns-clause-shows : goal.returns-clause-shows
returns-clause-shows c = fold_end c.loop-c.invariant.shows c.loop-c-test.false
