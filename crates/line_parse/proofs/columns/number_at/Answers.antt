-- `number_at` meets its contract.
use Rattle.std.proofs.Common.{rules}
use Rattle.line_parse.proofs.columns.ColumnLaws.{past_none}
use Rattle.line_parse.proofs.columns.number_at.Goals as goal

pub returns-in_err-rest : goal.returns-in_err-rest
returns-in_err-rest c = search (past_none, rules)
