-- Changes as the rules see them, for every value of the structs: a number that is none of the six counts as the last.
use Rattle.std.specs.Prelude.{List}
use Rattle.rules.specs.Changes as C
use Rattle.keys.specs.View.{view_place}
use Rattle.lists.specs.Table.{counted}
use Rattle.changes.specs.declared.Update.{Update}
use Rattle.changes.specs.declared.Changes.{Changes}

unfoldable pub view_update : Update → C.Update
view_update c = record { at = view_place c.place; kind = C.kind_of c.kind; value = c.value }

unfoldable pub view_changes : Changes → List C.Update
view_changes t = counted view_update t.count t.items
