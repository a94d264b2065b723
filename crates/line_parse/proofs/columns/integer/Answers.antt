-- `integer` meets its contract.
use Rattle.std.proofs.Common.{rules}
use Rattle.line_parse.proofs.columns.ColumnLaws.{blank_integer, minus_integer, plain_integer}
use Rattle.line_parse.proofs.columns.integer.Goals as goal

pub returns-in-empty : goal.returns-in-empty
returns-in-empty c = search (blank_integer, rules)

pub returns-in-45 : goal.returns-in-45
returns-in-45 c = search (minus_integer, rules)

pub returns-in_default : goal.returns-in_default
returns-in_default c = search (plain_integer, rules)
