-- `Session::is_doomed` meets its contract.
use mathlib.Core.Path.{refl}
use Rattle.sessions.specs.session.View.{view_slot, view_session}
use Rattle.sessions.proofs.session.Session.is_doomed.Goals as goal

pub returns : goal.returns
unfolding view_slot view_session
returns c = refl
