-- `Sessions::lost` meets its contract. The loop has gathered what the slots before s lose.
use Rattle.sessions.specs.session.View.{view_slot}
use Rattle.rules.specs.Effects.{is_lost}
use Rattle.docset.specs.Sets.{docs}
use Rattle.lists.proofs.Iterators.{Folding}
use Rattle.sessions.specs.View.{view_sessions}
use Rattle.sessions.proofs.SessionsLaws.{gathered}
use Rattle.sessions.proofs.Sessions.lost.Given as goal

abbrev pub invariant-loop-s : goal.invariant-loop-s
invariant-loop-s l = Folding view_slot (gathered l.clock) l.s-items (is_lost l.clock (view_sessions l.fn.self)) (docs l.set) l.s-index
