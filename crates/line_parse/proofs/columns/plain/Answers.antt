-- `plain` meets its contract.
use Rattle.std.proofs.Common.{rules}
use Rattle.line_parse.proofs.columns.ColumnLaws.{plain_fits, plain_is}
use Rattle.line_parse.proofs.columns.plain.Goals as goal

pub overflow_cast-result : goal.overflow_cast-result
overflow_cast-result c = search (plain_fits c.args.digits.now, rules)

pub returns : goal.returns
returns c = search (plain_is, rules)
