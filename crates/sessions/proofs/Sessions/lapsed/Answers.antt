-- `Sessions::lapsed` meets its contract. The loop has made the slots before s anew, and keeps the form.
use borrow.Author.Rules.{rules}
use Rattle.sessions.proofs.session.LapseLaws.{lapsed_now, lapsed_not}
use Rattle.sessions.proofs.SessionsLaws.{make_next, make_end}
use Rattle.sessions.proofs.Sessions.lapsed.Goals as goal
use Rattle.sessions.proofs.Sessions.lapsed.Goals.{then-lapses, else-lapses}

pub loop-s-preserved : goal.loop-s-preserved
loop-s-preserved c =
    elim c.if-lapses.branch [
      | then-lapses w ↦ rw w.s-items-is (make_next c.loop-s.invariant _ _ (search rules) (lapsed_now _ _ c.lapses.ensures _ w.if-lapses.true w.doom.ensures.shows) (λ h f. w.doom.ensures.form))
      | else-lapses w ↦ rw w.s-items-is (make_next c.loop-s.invariant _ _ (search rules) (lapsed_not _ _ c.lapses.ensures w.if-lapses.false) (λ h f. f))
    ]

pub returns-clause-shows : goal.returns-clause-shows
returns-clause-shows c = make_end c.loop-s.invariant (search rules) c.split_at_mut-s-items.ensures.back
