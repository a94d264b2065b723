-- `Session::lapses` meets its contract.
use Rattle.std.proofs.Common.{rules}
use Rattle.rules.specs.Effects.{lapses}
use Rattle.sessions.specs.session.View.{view_session}
use Rattle.sessions.proofs.session.Session.lapses.Goals as goal

pub returns-then-ended : goal.returns-then-ended
unfolding lapses view_session
returns-then-ended c = search rules

pub returns-else-ended : goal.returns-else-ended
unfolding lapses view_session
returns-else-ended c = search rules

pub returns-else-not-self : goal.returns-else-not-self
unfolding lapses view_session
returns-else-not-self c = search rules
