-- The data store as the rules see it, for every value of the struct, and its one form.
use Rattle.std.specs.Prelude.{ℕ, ◌+◌, ◌*◌, Bool, cond, map, get_or}
use Rattle.rules.specs.Limits.{document_count, field_count}
use Rattle.rules.specs.Values as S
use Rattle.rules.specs.Values.{in_range}
use Rattle.field.specs.View.{view_field, field_form}
use Rattle.lists.specs.Table.{array_form}
use Rattle.store.specs.declared.Store.{Store}

-- where a place's field stands
abbrev pub index_of : S.Place → ℕ
index_of q = field_count * q.document + q.field

-- a stock without what it says of places that there are not
unfoldable pub ranged : S.Stock → S.Stock
ranged s q = cond (in_range q) (s q) S.absent

unfoldable pub view_store : Store → S.Stock
unfolding ranged
view_store t = ranged (λ q. get_or (map view_field t.fields) (index_of q) S.absent)

unfoldable pub store_form : Store → Bool
store_form t = array_form (document_count * field_count) field_form t.fields
