-- The session that a caller's number names: on a kept plant, a number that no session can have is like 0, which none has.
use mathlib.Core.Path.{◌≡◌, refl, sym, ◌∙◌, ap}
use mathlib.Core.Bool.{true, false, ◌||◌, true≢false}
use mathlib.Core.List.{List, [], ◌∷◌}
use Prim.Native.Nat.{ℕ, suc, ◌≤◌}
use native.Mathlib.Omega.{arith}
use lib.Dec.{eqb, leb, ltb}
use lib.IntN.{ℤ, pos, negsuc}
use mir.Syntax.{w64}
use mir.Val.{SFits}
use borrow.Author.Tests.{eqb-true, ltb-false, le-ltb}
use Rattle.rules.specs.Limits.{first_session, last_session}
use Rattle.rules.specs.Lists.{all}
use Rattle.rules.specs.Values.{nat_of}
use Rattle.rules.specs.Tables.{Slot, has_slot, is_slot, freed, Plant}
use Rattle.rules.specs.Kept.{good_number}
use Rattle.rules.proofs.Laws.{by_case, and_true, or_false}
use Rattle.rules.proofs.KeptParts.{Kept}
use Rattle.arguments.specs.Numbers.{session_number}
use Rattle.arguments.proofs.Numbers.{held, session_is}

-- ── a number that no session can have ──
none_has : (next m : ℕ) (l : List Slot) → all (λ s. good_number next s.number) l ≡ true → good_number next m ≡ false → has_slot m l ≡ false
none_has next m [] g b = refl
none_has next m (s ∷ l) g b =
    let h = and_true (good_number next s.number) (all (λ x. good_number next x.number) l) g in
    by_case (eqb m s.number) (λ e. absurd (true≢false (sym h.0 ∙ ap (good_number next) (sym (eqb-true m s.number e)) ∙ b))) (λ e. rw e (none_has next m l h.1 b))

any_or : (m : ℕ) (s : Slot) (l : List Slot) → eqb m s.number || has_slot m l ≡ has_slot m (s ∷ l)
any_or m s l = by_case (eqb m s.number) (λ b. rw b refl) (λ b. rw b refl)

freed_none : (m : ℕ) (l : List Slot) → has_slot m l ≡ false → freed m l ≡ l
freed_none m [] h = refl
freed_none m (s ∷ l) h =
    let g = or_false (eqb m s.number) (has_slot m l) (any_or m s l ∙ h) in
    rw g.0 (ap (λ x. s ∷ x) (freed_none m l g.1))

module _ (p : Plant) (k : Kept p) where
  zero_has : has_slot 0 p.slots ≡ false
  zero_has = none_has p.next 0 p.slots k.slots.numbers refl

  past_has : (a : ℕ) → ltb a (suc last_session) ≡ false → has_slot a p.slots ≡ false
  past_has a e =
      let g : suc last_session ≤ a = ltb-false a (suc last_session) e in
      let n : p.next ≤ suc last_session = k.next in
      let l : ltb a p.next ≡ false = le-ltb a p.next (omega (arith, g, n)) in
      none_has p.next a p.slots k.slots.numbers (by_case (leb first_session a) (λ b. rw (b, l) refl) (λ b. rw b refl))

  -- ── as the code reads it: n ──
  module _ (z : ℤ) (fits : SFits w64 z) (n : ℕ) (e : n ≡ session_number (held z)) where
    Named : ℤ → Type 0
    Named y = (m : ℕ) → m ≡ session_number y
        → (is_slot y p.slots ≡ has_slot m p.slots) × ((has_slot m p.slots ≡ true → nat_of y ≡ m) × (freed (nat_of y) p.slots ≡ freed m p.slots))

    named : (y : ℤ) → Named y
    unfolding Named
    named (pos a) m g =
        by_case (ltb a (suc last_session))
        (λ b. let q : m ≡ a = g ∙ rw b refl in rw q (refl, (λ h. refl, refl)))
        (λ b. let q : m ≡ 0 = g ∙ rw b refl in
        rw q (past_has a b ∙ sym zero_has, (λ h. absurd (true≢false (sym h ∙ zero_has)), freed_none a p.slots (past_has a b) ∙ sym (freed_none 0 p.slots zero_has))))
    named (negsuc a) m g = rw g (sym zero_has, (λ h. absurd (true≢false (sym h ∙ zero_has)), refl))

    pub slot_is : is_slot z p.slots ≡ has_slot n p.slots
    unfolding Named
    slot_is = (named z n (session_is z fits n e)).0

    pub number_is : has_slot n p.slots ≡ true → nat_of z ≡ n
    unfolding Named
    number_is = (named z n (session_is z fits n e)).1.0

    pub freed_is : freed (nat_of z) p.slots ≡ freed n p.slots
    unfolding Named
    freed_is = (named z n (session_is z fits n e)).1.1
