-- `Sessions::session` meets its contract.
use borrow.Author.Rules.{rules}
use borrow.Author.Tests.{tests}
use lib.Dec.{eqb}
use Rattle.rules.specs.Tables.{doomed_session}
use Rattle.lists.proofs.Iterators.{shown_used, shown_some, shown_none, find_form}
use Rattle.sessions.specs.session.View.{view_slot}
use Rattle.sessions.specs.session.Form.{session_form, is_unused}
use Rattle.sessions.specs.View.{view_sessions}
use Rattle.sessions.specs.Form.{sessions_form}
use Rattle.sessions.proofs.session.SessionLaws.{slot_session}
use Rattle.sessions.proofs.SessionsLaws.{unused_form}
use Rattle.sessions.proofs.Sessions.session.Goals as goal

pub returns-in-Some-clause-shows : goal.returns-in-Some-clause-shows
unfolding view_sessions view_slot
returns-in-Some-clause-shows c =
    shown_some _ (λ s. eqb c.args.n s.number) (λ s. s.session) doomed_session c.in-Some.s c.find.ensures.ran c.in-Some.is (shown_used _ _ c.iter.ensures.rest c.used.ensures)
    (slot_session _) (λ x b f k. search (rules, tests))

pub returns-in-Some-clause-form : goal.returns-in-Some-clause-form
unfolding sessions_form
returns-in-Some-clause-form c = find_form (λ s. eqb c.args.n (view_slot s).number) _ 8 session_form is_unused _ _ c.in-Some.s c.find.ensures.ran c.in-Some.is c.iter.ensures.rest c.used.ensures (λ x b f k. search (rules, tests))

pub returns-in-None-clause-shows : goal.returns-in-None-clause-shows
unfolding view_sessions
returns-in-None-clause-shows c =
    shown_none _ (λ s. eqb c.args.n s.number) (λ s. s.session) doomed_session c.find.ensures.ran c.in-None.is (shown_used _ _ c.iter.ensures.rest c.used.ensures)
    c.empty.ensures.shows (λ x b f k. search (rules, tests))

pub returns-in-None-clause-form : goal.returns-in-None-clause-form
returns-in-None-clause-form c = λ f. unused_form _ c.empty.ensures.form
