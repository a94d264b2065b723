-- The one form of each value: a change in use has one of the six numbers, one that is not is all 0.
use Rattle.std.specs.Prelude.{Bool, ◌&&◌, eqb, pos}
use Rattle.rules.specs.Limits.{change_limit}
use Rattle.rules.specs.Lists.{is_case}
use Rattle.rules.specs.Values.{eq_z}
use Rattle.rules.specs.Changes.{kind_number, kinds}
use Rattle.keys.specs.Form.{is_blank}
use Rattle.lists.specs.Table.{table_form}
use Rattle.changes.specs.declared.Update.{Update}
use Rattle.changes.specs.declared.Changes.{Changes}

unfoldable pub is_used : Update → Bool
is_used c = is_case kind_number kinds c.kind

unfoldable pub is_unused : Update → Bool
is_unused c = is_blank c.place && eqb c.kind 0 && eq_z c.value (pos 0)

unfoldable pub changes_form : Changes → Bool
changes_form t = table_form change_limit is_used is_unused t.count t.items
