-- An argument out of a call's value is the one that was put in.
use mathlib.Core.Path.{◌≡◌}
use lib.IntN.{ℤ}
use mir.Syntax.{w64}
use mir.Val.{SFits, to_z, of_z}
use mir.ValLaws.{to_z-of_z}
use Rattle.calls.specs.declared.Call.{Call}

abbrev back : ℤ → ℤ
back z = to_z w64 (of_z w64 z)

pub back1 : (K : ℤ → Call) {x : Call} (z1 : ℤ) → x ≡ K z1 → SFits w64 z1 → x ≡ K (back z1)
back1 K z1 e f1 = rw (to_z-of_z w64 z1 f1) e

pub back2 : (K : ℤ → ℤ → Call) {x : Call} (z1 z2 : ℤ) → x ≡ K z1 z2 → SFits w64 z1 → SFits w64 z2 → x ≡ K (back z1) (back z2)
back2 K z1 z2 e f1 f2 = rw (to_z-of_z w64 z1 f1, to_z-of_z w64 z2 f2) e

pub back4 : (K : ℤ → ℤ → ℤ → ℤ → Call) {x : Call} (z1 z2 z3 z4 : ℤ) → x ≡ K z1 z2 z3 z4 → SFits w64 z1 → SFits w64 z2 → SFits w64 z3 → SFits w64 z4 → x ≡ K (back z1) (back z2) (back z3) (back z4)
back4 K z1 z2 z3 z4 e f1 f2 f3 f4 = rw (to_z-of_z w64 z1 f1, to_z-of_z w64 z2 f2, to_z-of_z w64 z3 f3, to_z-of_z w64 z4 f4) e

pub back5 : (K : ℤ → ℤ → ℤ → ℤ → ℤ → Call) {x : Call} (z1 z2 z3 z4 z5 : ℤ) → x ≡ K z1 z2 z3 z4 z5 → SFits w64 z1 → SFits w64 z2 → SFits w64 z3 → SFits w64 z4 → SFits w64 z5 → x ≡ K (back z1) (back z2) (back z3) (back z4) (back z5)
back5 K z1 z2 z3 z4 z5 e f1 f2 f3 f4 f5 = rw (to_z-of_z w64 z1 f1, to_z-of_z w64 z2 f2, to_z-of_z w64 z3 f3, to_z-of_z w64 z4 f4, to_z-of_z w64 z5 f5) e

pub back10 : (K : ℤ → ℤ → ℤ → ℤ → ℤ → ℤ → ℤ → ℤ → ℤ → ℤ → Call) {x : Call} (z1 z2 z3 z4 z5 z6 z7 z8 z9 z10 : ℤ) → x ≡ K z1 z2 z3 z4 z5 z6 z7 z8 z9 z10 → SFits w64 z1 → SFits w64 z2 → SFits w64 z3 → SFits w64 z4 → SFits w64 z5 → SFits w64 z6 → SFits w64 z7 → SFits w64 z8 → SFits w64 z9 → SFits w64 z10 → x ≡ K (back z1) (back z2) (back z3) (back z4) (back z5) (back z6) (back z7) (back z8) (back z9) (back z10)
back10 K z1 z2 z3 z4 z5 z6 z7 z8 z9 z10 e f1 f2 f3 f4 f5 f6 f7 f8 f9 f10 = rw (to_z-of_z w64 z1 f1, to_z-of_z w64 z2 f2, to_z-of_z w64 z3 f3, to_z-of_z w64 z4 f4, to_z-of_z w64 z5 f5, to_z-of_z w64 z6 f6, to_z-of_z w64 z7 f7, to_z-of_z w64 z8 f8, to_z-of_z w64 z9 f9, to_z-of_z w64 z10 f10) e
