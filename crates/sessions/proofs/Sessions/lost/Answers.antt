-- `Sessions::lost` meets its contract. The loop has gathered what the slots before s lose.
use Rattle.lists.proofs.Iterators.{fold_used, fold_next, fold_end}
use Rattle.sessions.proofs.SessionsLaws.{gather_is, gather_one}
use Rattle.sessions.proofs.Sessions.lost.Goals as goal

pub loop-s-init : goal.loop-s-init
loop-s-init c = fold_used _ _ c.used-s-items.ensures (gather_is _ _)

pub loop-s-preserved : goal.loop-s-preserved
loop-s-preserved c = fold_next c.loop-s.invariant _ c.loop-s-test.true (gather_one _ _ _ _ _ c.lost.ensures c.union-set.ensures)

pub returns : goal.returns
returns c = fold_end c.loop-s.invariant c.loop-s-test.false
