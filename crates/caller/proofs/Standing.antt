-- Whether a session may call, one law for each way out of `of`, and what a call of a session learns by it.
use mathlib.Core.Path.{◌≡◌, refl, sym, ◌∙◌, ap}
use mathlib.Core.Bool.{Bool, true, false, not}
use mathlib.Core.Option.{Option, none, some}
use mathlib.Core.List.{List, [], ◌∷◌, ◌++◌}
use Prim.Native.Nat.{ℕ}
use lib.IntN.{ℤ}
use mir.Syntax.{w64}
use mir.Val.{SFits}
use Rattle.std.specs.Prelude.{Ok, Err}
use Rattle.rules.specs.Values.{nat_of}
use Rattle.rules.specs.Refusals as R
use Rattle.rules.specs.Refusals.{no_slot, was_doomed, first, ◌⇒◌}
use Rattle.rules.specs.Tables as M
use Rattle.rules.specs.Calls.{Call, refused}
use Rattle.rules.specs.Conditions.{session_at, conditions}
use Rattle.rules.proofs.Laws.{by_case}
use Rattle.arguments.specs.Numbers.{session_number}
use Rattle.arguments.proofs.Numbers.{held}
use Rattle.sessions.specs.session.View.{view_session, view_slot}
use Rattle.sessions.specs.declared.session.Session.{Session}
use Rattle.sessions.specs.View.{view_sessions}
use Rattle.sessions.specs.declared.Sessions.{Sessions}
use Rattle.plant.specs.View.{view_plant, kept_plant}
use Rattle.plant.specs.declared.Plant.{Plant}
use Rattle.plant.proofs.PlantLaws.{kept_parts}
use Rattle.answers.specs.View.{view_refusal, answer_by}
use Rattle.answers.specs.declared.Refusal.{Refusal}
use Rattle.answers.specs.declared.Refusal.TheVariants as refusal
use Rattle.promises.specs.Promise.{result}
use Rattle.promises.proofs.Telling.{refuses}
use Rattle.promises.proofs.Numbers.{slot_is, number_is}
use Rattle.caller.specs.Standing.{standing, Judges}

-- ── the ways out of `of` ──
module _ (t : Sessions) (n : ℕ) (h : Bool) (eh : h ≡ M.has_slot n (view_sessions t)) where
  pub has_none : not h ≡ true → Judges t n (Err refusal.NoSlot)
  unfolding ◌⇒◌
  has_none g = record { shows = tt; refuses = rw (sym eh, g) refl }

  module _ (g : not h ≡ false) (s : Session) (es : view_session s ≡ M.session n (view_sessions t)) (d : Bool) (ed : d ≡ (view_slot s).session.doomed) where
    doomed_is : (M.session n (view_sessions t)).doomed ≡ d
    unfolding view_slot
    doomed_is = ap (λ (x : M.Session). x.doomed) (sym es) ∙ sym ed

    pub was_doomed_lem : d ≡ true → Judges t n (Err refusal.WasDoomed)
    unfolding ◌⇒◌
    was_doomed_lem i = record { shows = tt; refuses = rw (sym eh, g, doomed_is, i) refl }

    pub may_call : d ≡ false → Judges t n (Ok s)
    unfolding ◌⇒◌
    may_call i = record { shows = es; refuses = rw (sym eh, g, doomed_is, i) refl }

-- ── what a call learns ──
none_met : (b d : Bool) → none ≡ first ((not b ⇒ no_slot) ∷ (d ⇒ was_doomed) ∷ []) → (b ≡ true) × (d ≡ false)
unfolding ◌⇒◌
none_met true true e = cc
none_met true false e = (refl, refl)
none_met false d e = cc

one_met : (x y : Option R.Refusal) (l : List (Option R.Refusal)) (r : R.Refusal) → some r ≡ first (x ∷ y ∷ []) → first (x ∷ y ∷ l) ≡ some r
one_met none none l r e = cc
one_met none (some q) l r e = sym e
one_met (some q) y l r e = sym e

module _ (t : Sessions) (n : ℕ) where
  module _ (r : Refusal) (j : Judges t n (Err r)) (later : List (Option R.Refusal)) where
    -- whatever conditions come after
    pub first_met : first (standing n (view_sessions t) ++ later) ≡ some (view_refusal r)
    first_met = one_met (not (M.has_slot n (view_sessions t)) ⇒ no_slot) ((M.session n (view_sessions t)).doomed ⇒ was_doomed) later (view_refusal r) j.refuses

    pub turned-first : (ns : List ℕ) → refused (view_refusal r) ≡ answer_by (first (standing n (view_sessions t) ++ later)) ns
    turned-first ns = rw first_met refl

  pub is_open : (s : Session) → Judges t n (Ok s) → (M.has_slot n (view_sessions t) ≡ true) × ((M.session n (view_sessions t)).doomed ≡ false)
  is_open s j = none_met (M.has_slot n (view_sessions t)) (M.session n (view_sessions t)).doomed j.refuses

-- ── on a kept plant the caller's number z names the session ──
module _ (p : Plant) (k : kept_plant p ≡ true) (z : ℤ) (fits : SFits w64 z) (n : ℕ) (e : n ≡ session_number (held z)) where
  same_standing : (later : List (Option R.Refusal)) → first ((not (M.is_slot z (view_sessions p.sessions)) ⇒ no_slot) ∷ ((M.session (nat_of z) (view_sessions p.sessions)).doomed ⇒ was_doomed) ∷ later)
      ≡ first (standing n (view_sessions p.sessions) ++ later)
  unfolding view_plant ◌⇒◌
  same_standing later =
      let i : M.is_slot z (view_sessions p.sessions) ≡ M.has_slot n (view_sessions p.sessions) = slot_is (view_plant p) (kept_parts p k) z fits n e in
      by_case (M.has_slot n (view_sessions p.sessions))
      (λ h. let q : nat_of z ≡ n = number_is (view_plant p) (kept_parts p k) z fits n e h in rw (i, q) refl)
      (λ h. rw (i, h) refl)

-- a call of session z that asks first for 2 and 3, and then what comes after them
pub record Asks (c : ℤ → Call) (later : ℤ → M.Plant → List (Option R.Refusal)) : Type 0 where
  pub first_two : (z : ℤ) (lent : List ℤ) (p : M.Plant)
      → first (conditions (c z) lent p) ≡ first ((not (M.is_slot z p.slots) ⇒ no_slot) ∷ ((session_at z p).doomed ⇒ was_doomed) ∷ later z p)

module _ (p : Plant) (k : kept_plant p ≡ true) (z : ℤ) (fits : SFits w64 z) (n : ℕ) (e : n ≡ session_number (held z)) (s : Session) (j : Judges p.sessions n (Ok s)) where
  pub its_number : nat_of z ≡ n
  unfolding view_plant
  its_number = number_is (view_plant p) (kept_parts p k) z fits n e (is_open p.sessions n s j).0

  pub its_session : M.session (nat_of z) (view_sessions p.sessions) ≡ view_session s
  its_session = ap (λ (m : ℕ). M.session m (view_sessions p.sessions)) its_number ∙ sym j.shows

module _ {c : ℤ → Call} {later : ℤ → M.Plant → List (Option R.Refusal)} (asks : Asks c later) (p : Plant) (k : kept_plant p ≡ true) (z : ℤ) (fits : SFits w64 z) (n : ℕ) (e : n ≡ session_number (held z)) (lent : List ℤ) where
  asked : first (conditions (c z) lent (view_plant p)) ≡ first (standing n (view_sessions p.sessions) ++ later z (view_plant p))
  unfolding view_plant
  asked = asks.first_two z lent (view_plant p) ∙ same_standing p k z fits n e (later z (view_plant p))

  pub turned : (r : Refusal) → Judges p.sessions n (Err r) → refused (view_refusal r) ≡ (result (c z) lent p).answer
  turned r j = refuses (c z) lent (view_plant p) (view_refusal r) (asked ∙ first_met p.sessions n r j (later z (view_plant p)))

  pub stands : (s : Session) → Judges p.sessions n (Ok s) → first (conditions (c z) lent (view_plant p)) ≡ first (later z (view_plant p))
  unfolding ◌⇒◌
  stands s j = let o = is_open p.sessions n s j in asked ∙ rw (o.0, o.1) refl
