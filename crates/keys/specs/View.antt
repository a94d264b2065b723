-- Places and keys as the rules see them, for every value of the structs.
use Rattle.std.specs.Prelude.{ℕ, List, [], map, get_or}
use Rattle.rules.specs.Values as S
use Rattle.lists.specs.Table.{counted}
use Rattle.keys.specs.declared.Place.{Place}
use Rattle.keys.specs.declared.Key.{Key}
use Rattle.keys.specs.declared.Keys.{Keys}

unfoldable pub view_place : Place → S.Place
view_place q = record { document = q.document; field = q.field }

-- what an entry that is not in use shows
abbrev pub no_place : S.Place
no_place = record { document = 0; field = 0 }

unfoldable pub view_key : Key → List S.Place
view_key k = counted view_place k.count k.places

-- a number past the table is a key that is not defined
unfoldable pub view_keys : Keys → ℕ → List S.Place
view_keys t k = get_or (map view_key t.all) k []
