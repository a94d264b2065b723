-- The one form of the table of sessions: a slot that is not in use holds the empty session.
use Rattle.std.specs.Prelude.{Bool}
use Rattle.rules.specs.Limits.{slot_limit}
use Rattle.lists.specs.Table.{table_form}
use Rattle.sessions.specs.session.Form.{session_form, is_unused}
use Rattle.sessions.specs.declared.Sessions.{Sessions}

unfoldable pub sessions_form : Sessions → Bool
sessions_form t = table_form slot_limit session_form is_unused t.count t.slots
