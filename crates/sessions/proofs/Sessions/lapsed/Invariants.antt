-- `Sessions::lapsed` meets its contract. The loop has made the slots before s anew, and keeps the form.
use mathlib.Core.Path.{◌≡◌}
use mathlib.Core.Bool.{true}
use Rattle.sessions.specs.Form.{sessions_form}
use Rattle.rules.specs.Tables.{remade}
use Rattle.rules.specs.Effects.{lapse}
use Rattle.sessions.proofs.SessionsLaws.{Making}
use Rattle.sessions.proofs.Sessions.lapsed.Given as goal

abbrev pub invariant-loop-s : goal.invariant-loop-s
invariant-loop-s l = Making (sessions_form l.fn.self ≡ true) (remade (lapse l.clock)) l.fn.self l.end l.s-items l.s-index
