-- `Session::hinders` meets its contract.
use borrow.Author.Rules.{rules}
use Rattle.sessions.specs.session.View.{view_slot}
use Rattle.sessions.proofs.session.Session.hinders.Goals as goal

pub returns-then-not-is : goal.returns-then-not-is
unfolding view_slot
returns-then-not-is c = search rules
