-- `Cache::push` meets its contract.
use borrow.Author.Rules.{rules}
use Rattle.lists.proofs.Loops.{length_mapped}
use Rattle.lists.proofs.Iterators.{push_shows, push_form}
use Rattle.cache.specs.View.{view_cache}
use Rattle.cache.specs.Form.{cache_form}
use Rattle.cache.proofs.Cache.push.Goals as goal

pub returns-clause-shows : goal.returns-clause-shows
unfolding view_cache
returns-clause-shows c = search (push_shows, length_mapped, rules)

pub returns-clause-form : goal.returns-clause-form
unfolding cache_form
returns-clause-form c = search (push_form, length_mapped, rules)
