-- What a call's conditions say of its answer, and its answer of the plant it leaves.
use mathlib.Core.Path.{◌≡◌, refl, sym, ◌∙◌, ap}
use mathlib.Core.Bool.{true, false, true≢false}
use mathlib.Core.Option.{Option, none, some}
use mathlib.Core.List.{List}
use Prim.Native.Nat.{ℕ}
use lib.IntN.{ℤ}
use Rattle.rules.specs.Refusals.{Refusal, first}
use Rattle.rules.specs.Tables as M
use Rattle.rules.specs.Calls.{Call, Answer, refused, fine}
use Rattle.rules.specs.Conditions.{conditions}
use Rattle.rules.specs.Step.{accepted, session_of, ending, settle, step}
use Rattle.rules.proofs.Laws.{NoneMet, none_met}
use Rattle.rules.proofs.Steps.{step-fine, refused_is}
use Rattle.answers.specs.View.{answer_by, is_refused, is_ending}

module _ (c : Call) (lent : List ℤ) (p : M.Plant) where
  -- ── from the conditions ──
  pub refuses : (r : Refusal) → first (conditions c lent p) ≡ some r → refused r ≡ (step c lent p).answer
  unfolding step
  refuses r e = rw e refl

  pub accepts : first (conditions c lent p) ≡ none → (accepted c lent p).answer ≡ (step c lent p).answer
  unfolding step
  accepts e = rw e refl

  pub answers_by : (ns : List ℕ) → (accepted c lent p).answer ≡ fine ns → (o : Option Refusal) → first (conditions c lent p) ≡ o → answer_by o ns ≡ (step c lent p).answer
  answers_by ns a none e = sym a ∙ accepts e
  answers_by ns a (some r) e = refuses r e

  pub refuses_by : (ns : List ℕ) (o : Option Refusal) → is_refused (answer_by o ns) ≡ true → first (conditions c lent p) ≡ o → answer_by o ns ≡ (step c lent p).answer
  refuses_by ns none h e = absurd (true≢false (sym h))
  refuses_by ns (some r) h e = refuses r e

  -- ── from the answer ──
  pub none_held : (a : Answer) → a ≡ (step c lent p).answer → is_refused a ≡ false → NoneMet (conditions c lent p)
  unfolding step
  none_held a e h = none_met (conditions c lent p) (go (first (conditions c lent p)) (ap is_refused (sym e) ∙ h))
    where
      go : (o : Option Refusal) → is_refused (settle o c lent p).answer ≡ false → o ≡ none
      go none i = refl
      go (some r) i = absurd (true≢false i)

  pub left_accepted : NoneMet (conditions c lent p) → (accepted c lent p).plant ≡ (step c lent p).plant
  left_accepted m = ap (λ r. r.plant) (sym (step-fine c lent p m))

  -- a refusal that ends no session, and one that ends the caller's
  pub left_stays : (a : Answer) → a ≡ (step c lent p).answer → is_refused a ≡ true → is_ending a ≡ false → p ≡ (step c lent p).plant
  left_stays (refused r) e h s = sym (ap (λ x. x.plant) (refused_is c lent p r (sym e)) ∙ rw s refl)
  left_stays (fine ns) e h s = absurd (true≢false (sym h))

  pub left_ended : (a : Answer) → a ≡ (step c lent p).answer → is_ending a ≡ true → ending (session_of c) p ≡ (step c lent p).plant
  left_ended (refused r) e s = sym (ap (λ x. x.plant) (refused_is c lent p r (sym e)) ∙ rw s refl)
  left_ended (fine ns) e s = absurd (true≢false (sym s))
