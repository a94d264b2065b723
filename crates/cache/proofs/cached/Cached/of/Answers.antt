-- `Cached::of` meets its contract.
use mathlib.Core.Path.{refl}
use Rattle.lists.specs.Table.{counted}
use Rattle.cache.specs.cached.View.{view_cached}
use Rattle.cache.proofs.cached.CachedLaws.{of_form}
use Rattle.cache.proofs.cached.Cached.of.Goals as goal

pub returns-clause-shows : goal.returns-clause-shows
unfolding view_cached counted
returns-clause-shows c = refl

pub returns-clause-form : goal.returns-clause-form
unfolding view_cached counted
returns-clause-form c = of_form _ _ c.empty.ensures.shows c.empty.ensures.form
