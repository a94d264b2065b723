-- Two tables of sessions in form that show the same are equal.
use mathlib.Core.Path.{◌≡◌}
use mathlib.Core.Bool.{true, false}
use mathlib.Core.List.{[]}
use Rattle.lists.proofs.Forms.{table_unique}
use Rattle.sessions.specs.declared.session.Session.{Session}
use Rattle.sessions.specs.session.View.{view_slot}
use Rattle.sessions.specs.session.Form.{session_form, is_unused}
use Rattle.sessions.proofs.session.Unique.{session_unique, unused_unique}
use Rattle.sessions.specs.declared.Sessions.{Sessions}
use Rattle.sessions.specs.View.{view_sessions}
use Rattle.sessions.specs.Form.{sessions_form}

pub sessions_unique : (a b : Sessions) → sessions_form a ≡ true → sessions_form b ≡ true → view_sessions a ≡ view_sessions b → a ≡ b
unfolding view_sessions sessions_form
sessions_unique a b f g e = λ i. record { count = both.0 i; slots = both.1 i }
  where
    -- what lies past a table's end
    none : Session
    none = record { number = 0; begun = 0; doomed = false; shared = 0; exclusive = 0; granted = []; changes = record { count = 0; items = [] } }

    both : (a.count ≡ b.count) × (a.slots ≡ b.slots)
    both = table_unique 8 session_form is_unused view_slot session_unique unused_unique none a.count b.count a.slots b.slots f g e
