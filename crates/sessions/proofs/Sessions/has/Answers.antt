-- `Sessions::has` meets its contract. The loop looks for the first slot of the number.
use borrow.Author.Tests.{eq-eqb, ne_eqb}
use Rattle.std.proofs.Common.{refl, rules}
use Rattle.lists.proofs.Loops.{length_mapped}
use Rattle.lists.proofs.Views.{seek_start}
use Rattle.lists.proofs.Ends.{seek_found, seek_on, seek_done}
use Rattle.sessions.specs.View.{view_sessions}
use Rattle.sessions.specs.session.View.{view_slot}
use Rattle.sessions.proofs.Sessions.has.Goals as goal

pub loop-i-init : goal.loop-i-init
unfolding view_sessions
loop-i-init c = search (seek_start, length_mapped, rules)

pub returns-then-n-self : goal.returns-then-n-self
unfolding view_slot
returns-then-n-self c = seek_found c.loop-i.invariant _ (rw (← c.min-end.ensures) c.loop-i-test.true) (eq-eqb _ _ c.if-n-self.true) refl

pub loop-i-preserved : goal.loop-i-preserved
unfolding view_slot
loop-i-preserved c = seek_on c.loop-i.invariant _ (rw (← c.min-end.ensures) c.loop-i-test.true) (ne_eqb _ _ c.if-n-self.false)

pub returns : goal.returns
returns c = seek_done c.loop-i.invariant (rw (← c.min-end.ensures) c.loop-i-test.false) refl
