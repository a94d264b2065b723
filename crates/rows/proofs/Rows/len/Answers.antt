-- `Rows::len` meets its contract.
use Rattle.std.proofs.Common.{◌≡◌, ◌∙◌, length, min, arith, ap, rules}
use Rattle.lists.proofs.Views.{counted-length}
use Rattle.rows.specs.View.{view_rows}
use Rattle.rows.proofs.Rows.len.Goals as goal

pub overflow_cast-result : goal.overflow_cast-result
unfolding view_rows
overflow_cast-result c = let e : length c.used.result.now ≡ min c.args.self.count 48 = ap length c.used.ensures ∙ counted-length _ _ _ _ (search rules) in omega arith
