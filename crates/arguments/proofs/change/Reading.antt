-- The value of a change.
use mathlib.Core.Path.{◌≡◌, refl, ◌∙◌}
use mathlib.Core.Bool.{false, cond}
use Prim.Native.Nat.{ℕ}
use native.Mathlib.Omega.{arith}
use lib.IntN.{ℤ}
use mir.Syntax.{w32, w64}
use mir.Val.{SFits}
use mir.Facts.{to_z-of_z}
use Rattle.std.specs.Prelude.{Option, Some, None, Result, Ok, Err}
use Rattle.std.specs.Result.{OkIff, result_ok}
use Rattle.std.proofs.lemmas.Bool.Decides.{nat_tests}
use Rattle.rules.specs.Lists.{same_case}
use Rattle.rules.specs.Values.{fits32}
use Rattle.rules.specs.Changes.{kind_of, kind_number, unset, good_value}
use Rattle.arguments.proofs.Numbers.{held}
use Rattle.field.proofs.Signed.{fits_are, fits_not}

unset_test : (k : ℕ) → (k ≡ 2 → ⊥) → same_case kind_number (kind_of k) unset ≡ false
unset_test k n = grind (arith, nat_tests)

-- of any kind but unset
pub value_is : {E : Type 0} (k : ℕ) → (k ≡ 2 → ⊥) → (z : ℤ) → SFits w64 z → (t : Result ℤ E) → OkIff t (SFits w32 (held z)) (held z) → (o : Option ℤ) → o ≡ result_ok t
    → o ≡ cond (good_value (kind_of k) z) (Some z) None
value_is {E} k n z w t h o e = e ∙ go t h ∙ rw (unset_test k n) refl
  where
    go : (t : Result ℤ E) → OkIff t (SFits w32 (held z)) (held z) → result_ok t ≡ cond (fits32 z) (Some z) None
    go (Ok x) h = let s : SFits w32 z = rw (to_z-of_z w) at h.0 in rw (fits_are z s) (cc (h.1, to_z-of_z w))
    go (Err x) h = rw (fits_not z (λ s. h (rw (to_z-of_z w) s))) refl
