-- `Sessions::changed` meets its contract. The loop has made the slots before s anew, and keeps the form.
use mathlib.Core.Path.{◌≡◌}
use mathlib.Core.Bool.{true}
use Rattle.sessions.specs.Form.{sessions_form}
use Rattle.changes.specs.Form.{is_used}
use Rattle.sessions.proofs.SessionsLaws.{Making, granted}
use Rattle.sessions.proofs.Sessions.changed.Given as goal

abbrev pub invariant-loop-s : goal.invariant-loop-s
invariant-loop-s l = Making ((is_used l.c ≡ true) × (sessions_form l.fn.self ≡ true)) (granted l.now l.n l.c) l.fn.self l.end l.s-items l.s-index
