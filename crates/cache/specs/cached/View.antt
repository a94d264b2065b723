-- A cached key as the rules see it, for every value of the struct.
use Rattle.std.specs.Prelude.{List, [], get_or}
use Rattle.rules.specs.Limits.{place_limit}
use Rattle.rules.specs.Lists.{pushed}
use Rattle.rules.specs.Values as S
use Rattle.rules.specs.Changes as C
use Rattle.rules.specs.Tables as M
use Rattle.keys.specs.View.{no_place}
use Rattle.field.specs.View.{view_field}
use Rattle.lists.specs.Find.{map_from}
use Rattle.lists.specs.Table.{counted}
use Rattle.cache.specs.declared.cached.Cached.{Cached}

unfoldable pub view_cached : Cached → M.Cached
view_cached c = record { key = c.key; fields = counted view_field c.count c.fields }

-- what an entry that is not in use shows
abbrev pub no_cached : M.Cached
no_cached = record { key = 0; fields = [] }

-- a cached key with one more field
unfoldable pub with_field : S.Field → M.Cached → M.Cached
with_field f c = record { key = c.key; fields = pushed place_limit c.fields f }

-- a cached key after changes, where its places are qs
unfoldable pub after_changes : List C.Update → List S.Place → M.Cached → M.Cached
after_changes cs qs c = record { key = c.key; fields = map_from (λ i f. C.run cs (get_or qs i no_place) f) 0 c.fields }
