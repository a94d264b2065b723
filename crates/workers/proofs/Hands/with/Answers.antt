-- `Hands::with` meets its contract.
use borrow.Author.Rules.{rules}
use Rattle.lists.proofs.Loops.{length_mapped}
use Rattle.workers.proofs.HandLaws.{hands_with, with_form}
use Rattle.workers.proofs.Hands.with.Goals as goal

pub returns-then-at-lt-LIMIT-clause-shows : goal.returns-then-at-lt-LIMIT-clause-shows
returns-then-at-lt-LIMIT-clause-shows c = search (hands_with, length_mapped, rules)

pub returns-then-at-lt-LIMIT-clause-form : goal.returns-then-at-lt-LIMIT-clause-form
returns-then-at-lt-LIMIT-clause-form c = search (with_form, length_mapped, rules)
