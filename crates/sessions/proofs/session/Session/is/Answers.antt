-- `Session::is` meets its contract.
use mathlib.Core.Path.{refl}
use Rattle.sessions.specs.session.View.{view_slot}
use Rattle.sessions.proofs.session.Session.is.Goals as goal

pub returns : goal.returns
unfolding view_slot
returns c = refl
