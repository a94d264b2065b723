-- `Sessions::changed` meets its contract. The loop has made the slots before s anew, and keeps the form.
use borrow.Author.Rules.{rules}
use Rattle.sessions.proofs.session.SessionLaws.{grant_none}
use Rattle.sessions.proofs.SessionsLaws.{make_next, make_end, granted, granted_all}
use Rattle.sessions.proofs.Sessions.changed.Goals as goal
use Rattle.sessions.proofs.Sessions.changed.Goals.{then-meets, else-meets}

pub loop-s-preserved : goal.loop-s-preserved
unfolding granted
loop-s-preserved c =
    elim c.if-meets.branch [
      | then-meets w ↦ rw w.s-items-is (make_next c.loop-s.invariant _ _ (search rules) w.grant.ensures.shows (λ h. w.grant.ensures.form h.0))
      | else-meets w ↦ rw w.s-items-is (make_next c.loop-s.invariant _ _ (search rules) (grant_none _ _ _ _ c.meets.ensures w.if-meets.false) (λ h f. f))
    ]

pub returns-clause-shows : goal.returns-clause-shows
returns-clause-shows c = granted_all _ _ _ _ _ (make_end c.loop-s.invariant (search rules) c.split_at_mut-s-items.ensures.back)
