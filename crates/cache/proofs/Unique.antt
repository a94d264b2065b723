-- Two tables of cached keys in form that show the same are equal.
use mathlib.Core.Path.{◌≡◌}
use mathlib.Core.Bool.{true}
use mathlib.Core.List.{[]}
use Rattle.lists.proofs.Forms.{table_unique}
use Rattle.cache.specs.cached.View.{view_cached}
use Rattle.cache.specs.cached.Form.{cached_form, is_blank_cached}
use Rattle.cache.specs.declared.cached.Cached.{Cached}
use Rattle.cache.proofs.cached.Unique.{cached_unique, blank_entries}
use Rattle.cache.specs.View.{view_cache}
use Rattle.cache.specs.Form.{cache_form}
use Rattle.cache.specs.declared.Cache.{Cache}

no_entry : Cached
no_entry = record { key = 0; count = 0; fields = [] }

pub cache_unique : (a b : Cache) → cache_form a ≡ true → cache_form b ≡ true → view_cache a ≡ view_cache b → a ≡ b
unfolding view_cache cache_form
cache_unique a b f g e = λ i. record { count = both.0 i; entries = both.1 i }
  where
    both : (a.count ≡ b.count) × (a.entries ≡ b.entries)
    both = table_unique 16 cached_form is_blank_cached view_cached cached_unique blank_entries no_entry a.count b.count a.entries b.entries f g e
