-- `Cache::len` meets its contract.
use mathlib.Core.Path.{sym, ◌∙◌}
use Rattle.lists.proofs.Loops.{length_mapped}
use Rattle.lists.proofs.Views.{counted-length}
use Rattle.cache.specs.View.{view_cache}
use Rattle.cache.proofs.Cache.len.Goals as goal

pub returns : goal.returns
unfolding view_cache
returns c = c.min.ensures ∙ sym (counted-length _ _ _ _ (search length_mapped))
