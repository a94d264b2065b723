-- Two tables of rows in form that show the same are equal.
use Prim.Native.Nat.{ℕ}
use mathlib.Core.Path.{◌≡◌, sym, ◌∙◌}
use mathlib.Core.Bool.{true}
use lib.Dec.{eqb}
use borrow.Author.Tests.{eqb-true}
use Rattle.rules.specs.Limits.{row_limit}
use Rattle.lists.proofs.Forms.{table_unique}
use Rattle.rows.specs.View.{view_rows, rows_form}
use Rattle.rows.specs.declared.Rows.{Rows}

zeros : (a b : ℕ) → eqb a 0 ≡ true → eqb b 0 ≡ true → a ≡ b
zeros a b e f = eqb-true a 0 e ∙ sym (eqb-true b 0 f)

pub rows_unique : (a b : Rows) → rows_form a ≡ true → rows_form b ≡ true → view_rows a ≡ view_rows b → a ≡ b
unfolding view_rows rows_form
rows_unique a b f g e = λ i. record { count = both.0 i; numbers = both.1 i }
  where
    both : (a.count ≡ b.count) × (a.numbers ≡ b.numbers)
    both = table_unique row_limit (λ x. true) (λ x. eqb x 0) (λ x. x) (λ x y u v h. h) zeros 0 a.count b.count a.numbers b.numbers f g e
