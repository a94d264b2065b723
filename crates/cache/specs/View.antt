-- The cached keys as the rules see them, for every value of the struct.
use Rattle.std.specs.Prelude.{List}
use Rattle.rules.specs.Tables as M
use Rattle.lists.specs.Table.{counted}
use Rattle.cache.specs.cached.View.{view_cached}
use Rattle.cache.specs.declared.Cache.{Cache}

unfoldable pub view_cache : Cache → List M.Cached
view_cache t = counted view_cached t.count t.entries
