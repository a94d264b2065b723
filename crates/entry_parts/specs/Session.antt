-- The calls that are a session's, by the paper's numbers: 4 read, 5 change, 6 commit, 7 abandon, 15 report.
use Rattle.std.specs.Prelude.{Bool, [], ◌∷◌}
use Rattle.rules.specs.Lists.{has}
use Rattle.rules.specs.Calls.{call_number}
use Rattle.calls.specs.View.{view_call}
use Rattle.calls.specs.declared.Call.{Call}

abbrev pub has_session : Call → Bool
has_session c = has (call_number (view_call c)) (4 ∷ 5 ∷ 6 ∷ 7 ∷ 15 ∷ [])
