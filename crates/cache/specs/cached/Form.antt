-- The one form of a cached key: its fields in form, and those that are not in use absent; of key 0 and without fields, if it is not in use.
use Rattle.std.specs.Prelude.{Bool, ◌&&◌, eqb}
use Rattle.rules.specs.Limits.{place_limit}
use Rattle.field.specs.View.{field_form}
use Rattle.field.specs.declared.Field.{Field}
use Rattle.lists.specs.Table.{table_form}
use Rattle.cache.specs.declared.cached.Cached.{Cached}

unfoldable pub is_blank_field : Field → Bool
is_blank_field f = eqb f.kind 0 && field_form f

unfoldable pub cached_form : Cached → Bool
cached_form c = table_form place_limit field_form is_blank_field c.count c.fields

unfoldable pub is_blank_cached : Cached → Bool
is_blank_cached c = eqb c.key 0 && eqb c.count 0 && cached_form c
