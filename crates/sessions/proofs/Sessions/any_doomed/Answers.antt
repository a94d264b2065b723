-- `Sessions::any_doomed` meets its contract.
use borrow.Author.Rules.{rules}
use borrow.Author.Tests.{tests}
use Rattle.sessions.specs.session.View.{view_slot, view_session}
use Rattle.lists.proofs.Iterators.{shown_used, shown_any}
use Rattle.sessions.specs.View.{view_sessions}
use Rattle.sessions.proofs.Sessions.any_doomed.Goals as goal

pub returns : goal.returns
unfolding view_sessions view_slot view_session
returns c = shown_any (λ s. s.session.doomed) c.any.ensures.ran (shown_used _ _ c.iter.ensures.rest c.used.ensures) (λ x b f k. search (rules, tests))
