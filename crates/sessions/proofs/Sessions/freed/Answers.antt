-- `Sessions::freed` meets its contract.
use borrow.Author.Rules.{rules}
use borrow.Author.Tests.{tests}
use mathlib.Core.Path.{refl}
use mathlib.Core.Bool.{not}
use lib.Dec.{eqb}
use Rattle.lists.proofs.Loops.{length_mapped}
use Rattle.lists.proofs.Kept.{kept_shows, kept_form}
use Rattle.sessions.specs.session.View.{view_slot}
use Rattle.sessions.specs.session.Form.{session_form, is_unused}
use Rattle.sessions.specs.View.{view_sessions}
use Rattle.sessions.specs.Form.{sessions_form}
use Rattle.sessions.proofs.Sessions.freed.Goals as goal

pub returns-clause-shows : goal.returns-clause-shows
unfolding view_sessions
returns-clause-shows c = kept_shows _ _ _ _ _ (c.keep.ensures.kept (λ s. not (eqb c.args.n (view_slot s).number)) (λ x b k. search (rules, tests))) view_slot _ (λ s. refl)

pub returns-clause-form : goal.returns-clause-form
unfolding sessions_form
returns-clause-form c =
    kept_form _ _ _ _ _ (c.keep.ensures.kept (λ s. not (eqb c.args.n (view_slot s).number)) (λ x b k. search (rules, tests))) 8 session_form is_unused _
    (search (length_mapped, rules)) (search (length_mapped, rules)) c.keep.ensures.within c.keep.ensures.rest c.empty.ensures.form
