-- `Session::share` meets its contract. The loop has shared the documents of the places before q, and keeps the form.
use mathlib.Core.Path.{sym, ap}
use Rattle.lists.specs.Find.{fold}
use Rattle.lists.proofs.Iterators.{fold_start, fold_next, fold_end}
use Rattle.sessions.proofs.session.SessionLaws.{share_key, share_step}
use Rattle.sessions.proofs.session.Session.share.Goals as goal

pub loop-q-init : goal.loop-q-init
loop-q-init c = record { shows = fold_start (ap (fold _ _) (sym c.shown-q-items.ensures)); form = λ f. f }

pub loop-q-preserved : goal.loop-q-preserved
loop-q-preserved c = record {
  shows = fold_next c.loop-q.invariant.shows _ c.loop-q-test.true (share_step _ _ _ _ c.with_shared-self.ensures.shows);
  form = λ f. c.with_shared-self.ensures.form (c.loop-q.invariant.form f);
}

pub returns-clause-shows : goal.returns-clause-shows
returns-clause-shows c = share_key _ _ _ _ _ c.since-ticks.ensures (fold_end c.loop-q.invariant.shows c.loop-q-test.false)
