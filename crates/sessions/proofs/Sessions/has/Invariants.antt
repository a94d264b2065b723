-- `Sessions::has` meets its contract. The loop looks for the first slot of the number.
use lib.Dec.{eqb}
use Rattle.std.proofs.Common.{true, false}
use Rattle.rules.specs.Tables.{has_slot}
use Rattle.lists.proofs.Views.{Seeking}
use Rattle.sessions.specs.View.{view_sessions}
use Rattle.sessions.specs.session.View.{view_slot}
use Rattle.sessions.proofs.Sessions.has.Given as goal

abbrev pub invariant-loop-i : goal.invariant-loop-i
invariant-loop-i l = Seeking view_slot (λ s. eqb l.n s.number) (λ s. true) false l.self.count 8 l.self.slots (has_slot l.n (view_sessions l.self)) l.i
