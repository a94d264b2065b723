-- A word's sign and size, as they are read back from the bits that a local holds.
use mathlib.Core.Path.{◌≡◌, refl, ◌∙◌}
use mathlib.Core.List.{List}
use Prim.Native.Nat.{ℕ}
use native.Mathlib.Omega.{arith}
use lib.IntN.{ℤ, pos, negsuc}
use lib.Signed.{lt_z}
use mir.Syntax.{w32}
use mir.Val.{SFits, to_z, of_z}
use mir.Facts.{to_z-of_z}
use borrow.Author.Tests.{le-ltb}
use Rattle.line_format.specs.Bytes.{number_width}
use Rattle.line_format.specs.Columns.{is_negative, magnitude, digits_in, column}
use Rattle.line_print.specs.columns.Printed.{printed}

-- the test of the sign
negative_is : (z : ℤ) → lt_z z (pos 0) ≡ is_negative z
negative_is (pos n) = le-ltb n 0 (omega arith)
negative_is (negsuc n) = refl

module _ (z : ℤ) (h : SFits w32 z) where
  abbrev pub held : ℤ
  held = to_z w32 (of_z w32 z)

  sign_is : lt_z held (pos 0) ≡ is_negative z
  sign_is = rw (to_z-of_z h) (negative_is z)

  pub column_is : (n : ℕ) (u v : List ℕ) → n ≡ magnitude held → v ≡ printed (digits_in (lt_z held (pos 0)) number_width n) u → v ≡ printed (column number_width z) u
  unfolding column
  column_is n u v e p = p ∙ rw (sign_is, e, to_z-of_z h) refl
