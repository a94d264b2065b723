-- `Sessions::shared` meets its contract. The loop has made the slots before s anew, and keeps the form.
use borrow.Author.Rules.{rules}
use Rattle.sessions.proofs.session.SessionLaws.{own_is, own_other}
use Rattle.sessions.proofs.SessionsLaws.{make_next, make_end}
use Rattle.sessions.proofs.Sessions.shared.Goals as goal
use Rattle.sessions.proofs.Sessions.shared.Goals.{then-is, else-is}

pub loop-s-preserved : goal.loop-s-preserved
loop-s-preserved c =
    elim c.if-is.branch [
      | then-is w ↦ rw w.s-items-is (make_next c.loop-s.invariant _ _ (search rules) (own_is _ _ _ c.is.ensures _ w.if-is.true w.share.ensures.shows) (λ h. w.share.ensures.form))
      | else-is w ↦ rw w.s-items-is (make_next c.loop-s.invariant _ _ (search rules) (own_other _ _ _ c.is.ensures w.if-is.false) (λ h f. f))
    ]

pub returns-clause-shows : goal.returns-clause-shows
returns-clause-shows c = make_end c.loop-s.invariant (search rules) c.split_at_mut-s-items.ensures.back
