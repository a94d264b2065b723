-- `Session::meets` meets its contract.
use Rattle.std.proofs.Common.{arith}
use Rattle.std.proofs.lemmas.Grind.{common_steps}
use Rattle.sessions.specs.session.View.{view_slot}
use Rattle.sessions.proofs.session.Session.meets.Goals as goal

pub returns-then-self-n : goal.returns-then-self-n
unfolding view_slot
returns-then-self-n c = grind (arith, common_steps)

pub returns-else-self-n : goal.returns-else-self-n
unfolding view_slot
returns-else-self-n c = grind (arith, common_steps)
