-- `sign` meets its contract.
use borrow.Author.Rules.{rules}
use Rattle.line_print.proofs.columns.ColumnLaws.{sign_none, sign_put}
use Rattle.line_print.proofs.columns.sign.Goals as goal

pub returns-then-w-gt0 : goal.returns-then-w-gt0
returns-then-w-gt0 c = search (sign_put, rules)

pub returns-else-negative : goal.returns-else-negative
returns-else-negative c = search (sign_none, rules)
