-- `Cache::field` meets its contract.
use Rattle.rules.specs.Values as S
use Rattle.rules.specs.Reading as D
use Rattle.keys.specs.View.{view_place, view_keys}
use Rattle.lists.proofs.Iterators.{Looking}
use Rattle.cache.specs.cached.View.{view_cached}
use Rattle.cache.specs.View.{view_cache}
use Rattle.cache.proofs.Cache.field.Given as goal

abbrev pub invariant-loop-c : goal.invariant-loop-c
invariant-loop-c l =
    Looking view_cached (D.shows_it (view_keys l.keys) (view_place l.q)) (λ c. D.field_at (view_place l.q) (view_keys l.keys c.key) c.fields) S.absent l.c-items
    (D.cached_field (view_keys l.keys) (view_place l.q) (view_cache l.fn.self)) l.c-index
