-- The one form of each value: places that are not in use are 0.
use Rattle.std.specs.Prelude.{Bool, true, ◌&&◌, eqb}
use Rattle.rules.specs.Limits.{place_limit, key_count}
use Rattle.lists.specs.Table.{table_form, array_form}
use Rattle.keys.specs.declared.Place.{Place}
use Rattle.keys.specs.declared.Key.{Key}
use Rattle.keys.specs.declared.Keys.{Keys}

unfoldable pub is_blank : Place → Bool
is_blank q = eqb q.document 0 && eqb q.field 0

unfoldable pub key_form : Key → Bool
key_form k = table_form place_limit (λ q. true) is_blank k.count k.places

unfoldable pub keys_form : Keys → Bool
keys_form t = array_form key_count key_form t.all
