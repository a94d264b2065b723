-- `word` meets its contract.
use borrow.Author.Rules.{rules}
use Rattle.line_print.proofs.columns.WordLaws.{column_is}
use Rattle.line_print.proofs.columns.word.Goals as goal

pub returns : goal.returns
returns c = search (column_is, rules)
