-- Rows as a list of session numbers, for every value of the struct, and their one form: unused entries are 0.
use Rattle.std.specs.Prelude.{ℕ, Bool, true, List, eqb}
use Rattle.rules.specs.Limits.{row_limit}
use Rattle.lists.specs.Table.{counted, table_form}
use Rattle.rows.specs.declared.Rows.{Rows}

unfoldable pub view_rows : Rows → List ℕ
view_rows t = counted (λ n. n) t.count t.numbers

unfoldable pub rows_form : Rows → Bool
rows_form t = table_form row_limit (λ n. true) (λ n. eqb n 0) t.count t.numbers
