-- A set with one document less: its digit is turned, if it is 1.
use borrow.Author.Rules.{rules}
use Rattle.docset.proofs.SetLaws.{docs_below, without_none, without_there}
use Rattle.docset.proofs.without.Goals as goal

pub overflow_shl-result : goal.overflow_shl-result
overflow_shl-result c = search (docs_below, rules)

pub returns-then-has : goal.returns-then-has
returns-then-has c = search (without_there, docs_below, rules)

pub returns-else-has : goal.returns-else-has
returns-else-has c = search without_none
