-- On a kept plant a read by a caller's numbers is the read by the numbers of a session and a key that the code finds for them.
use mathlib.Core.Path.{◌≡◌, refl, ◌∙◌, ap, ap₂}
use mathlib.Core.Bool.{true}
use mathlib.Core.Option.{Option, none, some}
use mathlib.Core.List.{List}
use Prim.Native.Nat.{ℕ}
use lib.Dec.{ltb}
use lib.IntN.{ℤ, pos}
use mir.Syntax.{w64}
use mir.Val.{SFits}
use Rattle.rules.specs.Limits.{key_count}
use Rattle.rules.specs.Values.{below, nat_of}
use Rattle.rules.specs.Refusals.{Refusal, first, ◌⇒◌}
use Rattle.rules.specs.Tables as M
use Rattle.rules.specs.Calls.{Read}
use Rattle.rules.specs.Conditions.{conditions}
use Rattle.rules.specs.Step.{accepted, settle, step}
use Rattle.rules.proofs.Laws.{by_case}
use Rattle.arguments.specs.Numbers.{session_number, index_number}
use Rattle.arguments.proofs.Numbers.{held, index_test, index_is}
use Rattle.plant.specs.View.{view_plant, kept_plant}
use Rattle.plant.specs.declared.Plant.{Plant}
use Rattle.plant.proofs.PlantLaws.{kept_parts}
use Rattle.promises.specs.Promise.{result}
use Rattle.promises.proofs.Numbers.{slot_is, number_is}

module _ (p : M.Plant) (lent : List ℤ) (z y : ℤ) (n k : ℕ) (ly : ltb k key_count ≡ below y key_count) (ky : below y key_count ≡ true → nat_of y ≡ k)
    (sz : M.is_slot z p.slots ≡ M.has_slot n p.slots) (nz : M.has_slot n p.slots ≡ true → nat_of z ≡ n) where
  both_found : below y key_count ≡ true → M.has_slot n p.slots ≡ true → step (Read z y) lent p ≡ step (Read (pos n) (pos k)) lent p
  unfolding step conditions accepted ◌⇒◌
  both_found b h =
      let i : ltb (nat_of y) key_count ≡ true = ap (λ (x : ℕ). ltb x key_count) (ky b) ∙ ly ∙ b in
      let s : M.has_slot (nat_of z) p.slots ≡ true = ap (λ (x : ℕ). M.has_slot x p.slots) (nz h) ∙ h in
      let e : conditions (Read z y) lent p ≡ conditions (Read (pos (nat_of z)) (pos (nat_of y))) lent p = rw (b, i, sz ∙ h, s) refl in
      ap (λ l. settle (first l) (Read z y) lent p) e ∙ go (first (conditions (Read (pos (nat_of z)) (pos (nat_of y))) lent p))
      ∙ ap₂ (λ x w. step (Read (pos x) (pos w)) lent p) (nz h) (ky b)
    where
      go : (o : Option Refusal) → settle o (Read z y) lent p ≡ settle o (Read (pos (nat_of z)) (pos (nat_of y))) lent p
      go none = refl
      go (some r) = refl

  same_step : step (Read z y) lent p ≡ step (Read (pos n) (pos k)) lent p
  unfolding step conditions ◌⇒◌
  same_step =
      by_case (below y key_count)
      (λ b. by_case (M.has_slot n p.slots) (both_found b) (λ h. rw (ly ∙ b, b, sz, h) refl))
      (λ b. rw (ly ∙ b, b) refl)

module _ (p : Plant) (z : ℤ) (fz : SFits w64 z) (n : ℕ) (en : n ≡ session_number (held z))
    (y : ℤ) (fy : SFits w64 y) (k : ℕ) (ek : k ≡ index_number (held y) key_count) where
  pub named : kept_plant p ≡ true → (lent : List ℤ) → result (Read z y) lent p ≡ result (Read (pos n) (pos k)) lent p
  named h lent =
      let x = kept_parts p h in
      same_step (view_plant p) lent z y n k (index_test y fy key_count k ek) (index_is y fy key_count k ek) (slot_is (view_plant p) x z fz n en)
      (number_is (view_plant p) x z fz n en)
