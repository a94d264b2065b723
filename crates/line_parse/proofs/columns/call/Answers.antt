-- `call` meets its contract.
use Rattle.std.proofs.Common.{rules}
use Rattle.line_parse.proofs.columns.ColumnLaws.{call_is}
use Rattle.line_parse.proofs.columns.call.Goals as goal

pub returns-in_err-n : goal.returns-in_err-n
returns-in_err-n c = search (call_is, rules)

pub returns : goal.returns
returns c = search (call_is, rules)
