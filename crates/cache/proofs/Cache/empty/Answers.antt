-- `Cache::empty` meets its contract.
use mathlib.Core.Path.{refl}
use Rattle.lists.specs.Table.{counted}
use Rattle.cache.specs.View.{view_cache}
use Rattle.cache.proofs.CacheLaws.{cache_empty}
use Rattle.cache.proofs.Cache.empty.Goals as goal

pub returns-clause-shows : goal.returns-clause-shows
unfolding view_cache counted
returns-clause-shows c = refl

pub returns-clause-form : goal.returns-clause-form
unfolding view_cache counted
returns-clause-form c = cache_empty _ c.of.ensures.shows c.of.ensures.form
