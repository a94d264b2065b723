-- The number of documents of a set: the number of its digits that are 1.
use borrow.Author.Rules.{rules}
use Rattle.docset.proofs.SetLaws.{count_fits, count_is}
use Rattle.docset.proofs.count.Goals as goal

pub overflow_cast-result : goal.overflow_cast-result
overflow_cast-result c = count_fits _ (search rules)

pub returns : goal.returns
returns c = search (count_is, rules)
