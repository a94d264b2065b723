-- Numbers of 32 bits: as a local holds them, the ends of their range, and the test of equality.
use mathlib.Core.Path.{◌≡◌, refl, ap, sym, ◌∙◌}
use mathlib.Core.Bool.{true, false, not}
use Prim.Native.Nat.{ℕ, ◌<◌, ◌^◌}
use native.Mathlib.Omega.{arith}
use lib.Dec.{leb, ltb}
use lib.IntN.{ℤ, pos, negsuc}
use lib.Signed.{mag, le_z, lt_z}
use mir.Syntax.{w32, w64}
use mir.Val.{SFits, to_z, of_z}
use mir.Facts.{to_z-of_z, sfits_widen}
use borrow.Author.Rules.{sfits_of}
use borrow.Author.Tests.{leb-true, ltb-true, ltb-false, le-leb, lt-leb}
use Rattle.rules.proofs.KeptTest.{eq_z_is, eq_z-refl}
use Rattle.rules.proofs.Laws.{by_case, both}
use Rattle.rules.specs.Values.{eq_z, fits32}

-- a number as it is read back from the bits that a local holds
abbrev pub held : ℤ → ℤ
held z = to_z w32 (of_z w32 z)

pub held_is : (z : ℤ) → mag z < 2 ^ 31 → held z ≡ z
held_is z h = to_z-of_z {w = w32} {z = z} (sfits_of h)

-- ── a number of 32 bits has 64 ──
-- a number that is read back after a cast to 64 bits
abbrev pub wide : ℤ → ℤ
wide z = to_z w64 (of_z w64 (held z))

module _ (a : ℤ) (h : SFits w32 a) where
  pub held_fits : SFits w64 (held a)
  held_fits = rw (to_z-of_z h) (sfits_widen tt h)

  pub wide_is : wide a ≡ a
  wide_is = to_z-of_z held_fits ∙ to_z-of_z h

-- ── the ends of the range ──
pub fits_are : (z : ℤ) → SFits w32 z → fits32 z ≡ true
unfolding fits32
fits_are (pos n) h = le-leb n 2147483647 (omega (arith, h.sfits))
fits_are (negsuc n) h = both _ _ (le-leb n 2147483647 (omega (arith, h.sfits))) refl

pub fits_not : (z : ℤ) → (SFits w32 z → ⊥) → fits32 z ≡ false
unfolding fits32
fits_not (pos n) h = by_case (leb n 2147483647) (λ t. absurd (h (record { sfits = omega (arith, leb-true n 2147483647 t) }))) (λ t. t)
fits_not (negsuc n) h = by_case (leb n 2147483647) (λ t. absurd (h (record { sfits = omega (arith, leb-true n 2147483647 t) }))) (λ t. rw t)

-- the rules compare by `le_z`
leb_is : (a b : ℕ) → leb b a ≡ not (ltb a b)
leb_is a b = by_case (ltb a b) (λ t. rw t (lt-leb b a (ltb-true a b t))) (λ t. rw t (le-leb b a (ltb-false a b t)))

pub le_z_is : (a b : ℤ) → le_z b a ≡ not (lt_z a b)
le_z_is (pos a) (pos b) = leb_is a b
le_z_is (pos a) (negsuc b) = refl
le_z_is (negsuc a) (pos b) = refl
le_z_is (negsuc a) (negsuc b) = leb_is b a

-- ── the code's test of equality compares bits ──
module _ (x v : ℤ) (wx : mag x < 2 ^ 31) (wv : SFits w32 v) where
  pub bits_same : of_z w32 x ≡ of_z w32 v → eq_z x v ≡ true
  bits_same e = let q : x ≡ v = sym (held_is x wx) ∙ ap (to_z w32) e ∙ to_z-of_z wv in rw q (eq_z-refl v)

  pub bits_other : (of_z w32 x ≡ of_z w32 v → ⊥) → eq_z x v ≡ false
  bits_other n = by_case (eq_z x v) (λ t. absurd (n (ap (of_z w32) (eq_z_is x v t)))) (λ t. t)
