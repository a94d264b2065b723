-- What store answers and leaves, one law for each way out.
use mathlib.Core.Path.{◌≡◌, refl, sym, ◌∙◌, ap}
use mathlib.Core.Bool.{true, false}
use mathlib.Core.List.{List, [], ◌∷◌}
use Prim.Native.Nat.{ℕ, zero, suc, ◌≤◌, ◌<◌}
use native.Mathlib.Omega.{arith}
use lib.Dec.{eqb, ltb}
use lib.IntN.{ℤ, pos, negsuc}
use mir.Syntax.{w64}
use mir.Val.{SFits}
use borrow.Author.Tests.{ne_eqb, le-ltb, not-false}
use Rattle.rules.specs.Lists.{bit, is_case, case_of}
use Rattle.rules.specs.Values.{below, nat_of}
use Rattle.rules.specs.Refusals.{out_of_range, ◌⇒◌}
use Rattle.rules.specs.Calls as C
use Rattle.rules.specs.Calls.{Store, refused, fine}
use Rattle.rules.specs.Conditions.{conditions, good_store_mark}
use Rattle.rules.specs.Step.{accepted}
use Rattle.rules.proofs.Laws.{by_case, not_met}
use Rattle.promises.specs.Promise.{result, Performs}
use Rattle.promises.proofs.Telling.{refuses, accepts, none_held, left_accepted}
use Rattle.std.specs.Prelude.{Bool, Option, Some}
use Rattle.std.specs.Option.{option_eq}
use Rattle.arguments.specs.Numbers.{index_of}
use Rattle.arguments.proofs.Numbers.{held, indexed}
use Rattle.plant.specs.View.{view_plant, kept_plant}
use Rattle.plant.specs.With.{with_near}
use Rattle.plant.specs.declared.Plant.{Plant}

-- ── the marks ──
two_marks : (n : ℕ) → is_case bit (true ∷ false ∷ []) n ≡ ltb n 2
two_marks zero = refl
two_marks (suc zero) = refl
two_marks (suc (suc n)) =
    let m : ℕ = suc (suc n) in
    rw (ne_eqb m 1 (λ e. omega arith), ne_eqb m 0 (λ e. omega arith), le-ltb m 2 (omega arith)) refl

mark_test : (z : ℤ) → good_store_mark z ≡ below z 2
mark_test (pos n) = two_marks n
mark_test (negsuc n) = refl

near_is : (n : ℕ) → eqb n 1 ≡ case_of bit false (true ∷ false ∷ []) n
near_is n = by_case (eqb n 1) (λ t. rw t refl) (λ t. rw t (by_case (eqb n 0) (λ u. rw u refl) (λ u. rw u refl)))

module _ (p : Plant) (z : ℤ) (lent : List ℤ) (kept : kept_plant p ≡ true) where
  abbrev Answered : C.Answer → Type 0
  Answered a = a ≡ (result (Store z) lent p).answer

  pub out_of_range_lem : below z 2 ≡ false → Answered (refused out_of_range)
  unfolding conditions ◌⇒◌
  out_of_range_lem l = refuses (Store z) lent (view_plant p) _ (rw (mark_test z, l) refl)

  pub done : below z 2 ≡ true → Answered (fine [])
  unfolding conditions ◌⇒◌ accepted
  done l = accepts (Store z) lent (view_plant p) (rw (mark_test z, l) refl)

-- ── the plant left ──
module _ (p : Plant) (z : ℤ) (fits : SFits w64 z) (o : Option ℕ) (e : o ≡ index_of (held z) 2) (b : Bool) (eb : b ≡ option_eq eqb o (Some 1)) where
  pub marked : Performs (Store z) p (with_near p b)
  unfolding conditions view_plant accepted
  marked kept lent h =
      let m = none_held (Store z) lent (view_plant p) _ refl h in
      let g : below z 2 ≡ true = sym (mark_test z) ∙ not-false (good_store_mark z) (not_met _ out_of_range m.0) in
      let q : o ≡ Some (nat_of z) = indexed z fits 2 o e ∙ rw g refl in
      let w : b ≡ case_of bit false (true ∷ false ∷ []) (nat_of z) = eb ∙ ap (λ (x : Option ℕ). option_eq eqb x (Some 1)) q ∙ near_is (nat_of z) in
      rw w refl
      ∙ left_accepted (Store z) lent (view_plant p) m
