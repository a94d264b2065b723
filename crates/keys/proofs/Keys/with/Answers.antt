-- `Keys::with` meets its contract.
use Rattle.std.proofs.Common.{rules}
use Rattle.lists.proofs.Loops.{length_mapped}
use Rattle.keys.proofs.KeyLaws.{keys_with, with_form}
use Rattle.keys.proofs.Keys.with.Goals as goal

pub returns-then-at-lt-LIMIT-clause-shows : goal.returns-then-at-lt-LIMIT-clause-shows
returns-then-at-lt-LIMIT-clause-shows c = search (keys_with, length_mapped, rules)

pub returns-then-at-lt-LIMIT-clause-form : goal.returns-then-at-lt-LIMIT-clause-form
returns-then-at-lt-LIMIT-clause-form c = search (with_form, length_mapped, rules)
