-- Columns are as wide as they are said to be.
use mathlib.Core.Path.{◌≡◌, refl, ap}
use mathlib.Core.Bool.{Bool, false, cond}
use mathlib.Core.List.{List, [], ◌∷◌, ◌++◌}
use Prim.Native.Nat.{ℕ, zero, suc, ◌/◌}
use native.Mathlib.Omega.{arith}
use lib.Dec.{ltb}
use lib.ListN.{length, replicate, length-append, length-replicate}
-- the worked lines come first: a definition that is off shows there before it shows in a law
use Rattle.line_format.proofs.Worked.{worked_lines}
use Rattle.rules.proofs.Laws.{by_case}
use Rattle.line_format.specs.Bytes.{space, base}
use Rattle.line_format.specs.Columns.{before, digits_in}

pub replicate_last : (w a : ℕ) → replicate w a ++ (a ∷ []) ≡ replicate (suc w) a
replicate_last zero a = refl
replicate_last (suc w) a = ap (λ (l : List ℕ). a ∷ l) (replicate_last w a)

pub spaces : (w : ℕ) → before false w ≡ replicate w space
spaces zero = refl
spaces (suc w) = replicate_last w space

before_long : (negative : Bool) (w : ℕ) → length (before negative w) ≡ w
before_long negative zero = refl
before_long negative (suc w) = simp (length-append, length-replicate) (omega arith)

pub columns_long : (negative : Bool) (w n : ℕ) → length (digits_in negative w n) ≡ w
columns_long negative zero n = refl
columns_long negative (suc w) n =
    let h : length (cond (ltb n base) (before negative w) (digits_in negative w (n / base))) ≡ w = by_case (ltb n base) (λ t. rw t (before_long negative w)) (λ t. rw t (columns_long negative w (n / base))) in
    simp length-append (omega arith)
