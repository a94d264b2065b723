-- Whether a session may call: the rules' conditions 2 and 3, of the session that has number n in the table.
use Rattle.std.specs.Prelude.{ℕ, ◌≡◌, not, List, [], ◌∷◌, Result, IfOk}
use Rattle.std.proofs.Math.Option.{Option}
use Rattle.rules.specs.Refusals as R
use Rattle.rules.specs.Refusals.{no_slot, was_doomed, ◌⇒◌, first}
use Rattle.rules.specs.Tables.{Slot, has_slot, session}
use Rattle.sessions.specs.session.View.{view_session}
use Rattle.sessions.specs.View.{view_sessions}
use Rattle.sessions.specs.declared.Sessions.{Sessions}
use Rattle.sessions.specs.declared.session.Session.{Session}
use Rattle.answers.specs.View.{refusal_met}
use Rattle.answers.specs.declared.Refusal.{Refusal}

abbrev pub standing : ℕ → List Slot → List (Option R.Refusal)
standing n slots = (not (has_slot n slots) ⇒ no_slot) ∷ ((session n slots).doomed ⇒ was_doomed) ∷ []

-- of who calls: the session that has the number, or the refusal that it meets by them
pub record Judges (sessions : Sessions) (n : ℕ) (c : Result Session Refusal) : Type 0 where
  pub shows : IfOk c (λ s. view_session s ≡ session n (view_sessions sessions))
  pub refuses : refusal_met c ≡ first (standing n (view_sessions sessions))
