-- The one form of the cached keys: each in form, and what is not in use of key 0 and without fields.
use Rattle.std.specs.Prelude.{Bool}
use Rattle.rules.specs.Limits.{cache_limit}
use Rattle.lists.specs.Table.{table_form}
use Rattle.cache.specs.cached.Form.{cached_form, is_blank_cached}
use Rattle.cache.specs.declared.Cache.{Cache}

unfoldable pub cache_form : Cache → Bool
cache_form t = table_form cache_limit cached_form is_blank_cached t.count t.entries
