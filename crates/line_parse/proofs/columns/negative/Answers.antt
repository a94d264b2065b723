-- `negative` meets its contract.
use Rattle.std.proofs.Common.{rules}
use Rattle.line_parse.proofs.columns.ColumnLaws.{plain_fits, minus_fits, negative_is}
use Rattle.line_parse.proofs.columns.negative.Goals as goal

pub overflow_cast-n : goal.overflow_cast-n
overflow_cast-n c = search (plain_fits c.args.digits.now, rules)

pub overflow_sub-n : goal.overflow_sub-n
overflow_sub-n c = search (minus_fits, rules)

pub returns : goal.returns
returns c = search (negative_is, rules)
