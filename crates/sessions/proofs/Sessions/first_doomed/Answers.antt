-- `Sessions::first_doomed` meets its contract.
use borrow.Author.Rules.{rules}
use borrow.Author.Tests.{tests}
use Rattle.lists.proofs.Iterators.{shown_used, shown_map_or}
use Rattle.sessions.specs.session.View.{view_slot, view_session}
use Rattle.sessions.specs.View.{view_sessions}
use Rattle.sessions.proofs.Sessions.first_doomed.Goals as goal

pub returns : goal.returns
unfolding view_sessions view_slot view_session
returns c =
    shown_map_or _ (λ s. s.session.doomed) (λ s. s.number) 0 _ _ c.find.ensures.ran (shown_used _ _ c.iter.ensures.rest c.used.ensures) c.map_or.ensures
    (λ s k. search rules) (λ x b f k. search (rules, tests))
