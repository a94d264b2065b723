-- The table of sessions as the rules see it, for every value of the struct.
use Rattle.std.specs.Prelude.{List}
use Rattle.rules.specs.Tables as M
use Rattle.lists.specs.Table.{counted}
use Rattle.sessions.specs.session.View.{view_slot}
use Rattle.sessions.specs.declared.Sessions.{Sessions}

unfoldable pub view_sessions : Sessions → List M.Slot
view_sessions t = counted view_slot t.count t.slots
