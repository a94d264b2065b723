-- `Cache::without_first` meets its contract.
use borrow.Author.Rules.{rules}
use Rattle.lists.proofs.Loops.{length_mapped}
use Rattle.cache.proofs.CacheLaws.{few, first_gone, first_form}
use Rattle.cache.proofs.Cache.without_first.Goals as goal

pub copy_within-requires-clause-in_bounds : goal.copy_within-requires-clause-in_bounds
copy_within-requires-clause-in_bounds c = search (few, length_mapped, rules)

pub copy_within-requires-clause-dest_in_bounds : goal.copy_within-requires-clause-dest_in_bounds
copy_within-requires-clause-dest_in_bounds c = search (few, length_mapped, rules)

pub returns-then-n-gt0-clause-shows : goal.returns-then-n-gt0-clause-shows
returns-then-n-gt0-clause-shows c = search (first_gone, length_mapped, rules)

pub returns-then-n-gt0-clause-form : goal.returns-then-n-gt0-clause-form
returns-then-n-gt0-clause-form c = search (first_form, length_mapped, rules)
