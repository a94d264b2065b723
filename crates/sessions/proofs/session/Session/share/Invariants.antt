-- `Session::share` meets its contract. The loop has shared the documents of the places before q, and keeps the form.
use mathlib.Core.Path.{◌≡◌}
use mathlib.Core.Bool.{true}
use Rattle.lists.specs.Find.{fold}
use Rattle.lists.proofs.Iterators.{Folding}
use Rattle.keys.specs.View.{view_place, view_key}
use Rattle.sessions.specs.session.View.{view_slot}
use Rattle.sessions.specs.session.Form.{session_form}
use Rattle.sessions.proofs.session.SessionLaws.{sharing}
use Rattle.sessions.proofs.session.Session.share.Given as goal

abbrev pub invariant-loop-q : goal.invariant-loop-q
invariant-loop-q l = record {
  shows : Folding view_place (sharing l.ticks) l.q-items (fold (sharing l.ticks) (view_slot l.fn.self) (view_key l.fn.key)) (view_slot l.self) l.q-index;
  form : session_form l.fn.self ≡ true → session_form l.self ≡ true;
}
