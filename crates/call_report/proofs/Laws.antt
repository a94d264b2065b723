-- What report asks, answers and leaves.
use mathlib.Core.Path.{◌≡◌, refl, sym, ◌∙◌, ap}
use mathlib.Core.Option.{none}
use mathlib.Core.List.{List, [], ◌∷◌}
use Prim.Native.Nat.{ℕ}
use lib.IntN.{ℤ}
use lib.ListN.{length}
use Rattle.rules.specs.Refusals.{first}
use Rattle.rules.specs.Values.{nat_of}
use Rattle.rules.specs.Tables.{documents}
use Rattle.rules.specs.Tables as M
use Rattle.rules.specs.Calls.{Answer, Report, fine}
use Rattle.rules.specs.Conditions.{conditions}
use Rattle.rules.specs.Step.{accepted, count, held_shared, held_exclusive}
use Rattle.changes.specs.View.{view_changes}
use Rattle.sessions.specs.session.View.{view_session}
use Rattle.sessions.specs.declared.session.Session.{Session}
use Rattle.sessions.specs.View.{view_sessions}
use Rattle.plant.specs.View.{view_plant}
use Rattle.plant.specs.declared.Plant.{Plant}
use Rattle.promises.specs.Promise.{result, Performs}
use Rattle.promises.proofs.Telling.{accepts, none_held, left_accepted}
use Rattle.caller.proofs.Standing.{Asks}

pub asks : Asks Report (λ z p. [])
unfolding conditions
asks = record { first_two = λ z lent p. refl }

told : M.Session → Answer
told s = fine (count (held_shared s) documents ∷ count (held_exclusive s) documents ∷ length s.changes ∷ [])

pub reports : (p : Plant) (z : ℤ) (lent : List ℤ) (s : Session) (x y n : ℕ)
    → x ≡ count (held_shared (view_session s)) documents → y ≡ count (held_exclusive (view_session s)) documents → n ≡ length (view_changes s.changes)
    → M.session (nat_of z) (view_sessions p.sessions) ≡ view_session s → first (conditions (Report z) lent (view_plant p)) ≡ none
    → fine (x ∷ y ∷ n ∷ []) ≡ (result (Report z) lent p).answer
unfolding view_plant view_session accepted told
reports p z lent s x y n ex ey en es f = rw (ex, ey, en) refl ∙ ap told (sym es) ∙ accepts (Report z) lent (view_plant p) f

-- a report that is accepted leaves the plant as it was
pub performs : (p : Plant) (z : ℤ) → Performs (Report z) p p
unfolding accepted
performs p z k lent h = left_accepted (Report z) lent (view_plant p) (none_held (Report z) lent (view_plant p) _ refl h)
