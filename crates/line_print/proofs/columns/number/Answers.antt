-- `number` meets its contract.
use borrow.Author.Rules.{rules}
use Rattle.line_format.specs.Columns.{column}
use Rattle.line_print.proofs.columns.number.Goals as goal

pub returns : goal.returns
unfolding column
returns c = search rules
