-- What begin answers and leaves, one law for each way out.
use mathlib.Core.Path.{◌≡◌, refl, sym, ◌∙◌}
use mathlib.Core.Bool.{Bool, true, false, not, ◌&&◌}
use mathlib.Core.List.{List, [], ◌∷◌}
use Prim.Native.Nat.{ℕ, suc, ◌<◌, ◌≤◌, ◌+◌}
use native.Mathlib.Omega.{arith}
use lib.Dec.{leb}
use lib.IntN.{ℤ}
use lib.ListN.{length}
use borrow.Author.Tests.{lt-ltb, le-ltb, lt-leb, le-leb, ltb-false}
use Rattle.rules.specs.Limits.{last_session, slot_limit}
use Rattle.rules.specs.Lists.{any, pushed}
use Rattle.rules.specs.Refusals.{numbers_spent, slots_full, ◌⇒◌}
use Rattle.rules.specs.Tables as M
use Rattle.rules.specs.Calls.{Begin, refused, fine}
use Rattle.rules.specs.Calls as C
use Rattle.rules.specs.Conditions.{conditions}
use Rattle.rules.specs.Effects.{begun, opened, room}
use Rattle.rules.specs.Step.{accepted}
use Rattle.rules.proofs.Laws.{not_met}
use Rattle.sessions.specs.View.{view_sessions}
use Rattle.sessions.specs.Form.{sessions_form}
use Rattle.sessions.specs.declared.Sessions.{Sessions}
use Rattle.plant.specs.View.{view_plant, kept_plant, plant_form}
use Rattle.plant.specs.declared.Plant.{Plant}
use Rattle.plant.proofs.Formed.{form_with_sessions, form_with_next}
use Rattle.promises.specs.Promise.{result, Performs}
use Rattle.promises.proofs.Telling.{refuses, accepts, none_held, left_accepted}
use Rattle.call_begin.specs.Left.{left}

-- ── whether every slot is taken ──
abbrev any_doomed : List M.Slot → Bool
any_doomed = any (λ s. s.session.doomed)

module _ (l : List M.Slot) (n : ℕ) (en : n ≡ length l) where
  pub some_free : n < slot_limit → false ≡ leb slot_limit (length l) && not (any_doomed l)
  some_free h = rw (sym en, lt-leb slot_limit n h) refl

  pub none_free : slot_limit ≤ n → (b : Bool) → b ≡ any_doomed l → not b ≡ leb slot_limit (length l) && not (any_doomed l)
  none_free h b eb = rw (sym en, le-leb slot_limit n h, eb) refl

-- ── the answer ──
module _ (p : Plant) (lent : List ℤ) (k : kept_plant p ≡ true) where
  abbrev Answered : C.Answer → Type 0
  Answered a = a ≡ (result Begin lent p).answer

  pub spent : last_session < p.next → Answered (refused numbers_spent)
  unfolding conditions view_plant ◌⇒◌
  spent h = refuses Begin lent (view_plant p) _ (rw (lt-ltb last_session p.next h) refl)

  module _ (h : p.next ≤ last_session) (f : Bool) (ef : f ≡ leb slot_limit (length (view_sessions p.sessions)) && not (any_doomed (view_sessions p.sessions))) where
    pub full : f ≡ true → Answered (refused slots_full)
    unfolding conditions view_plant ◌⇒◌
    full g = refuses Begin lent (view_plant p) _ (rw (le-ltb last_session p.next h, sym ef, g) refl)

    pub begins : f ≡ false → Answered (fine (p.next ∷ []))
    unfolding conditions view_plant ◌⇒◌ accepted
    begins g = accepts Begin lent (view_plant p) (rw (le-ltb last_session p.next h, sym ef, g) refl)

-- ── the plant left ──
-- none where the numbers are spent
pub not-spent : (p : Plant) → last_session < p.next → (q : Plant) → Performs Begin p q
unfolding conditions view_plant
not-spent p g q k lent h =
    let m = none_held Begin lent (view_plant p) _ refl h in
    absurd (omega (arith, g, ltb-false last_session p.next (not_met _ numbers_spent m.0)))

module _ (p : Plant) (t : Sessions) (et : view_sessions t ≡ pushed slot_limit (room (view_sessions p.sessions)) (opened p.next p.clock)) where
  abbrev with_begun : Plant
  with_begun = left p (record { sessions = t; next = p.next + 1 })

  pub opens : Performs Begin p with_begun
  unfolding view_plant accepted begun
  opens k lent h =
      let n : p.next + 1 ≡ suc p.next = omega arith in
      rw (et, n) refl
      ∙ left_accepted Begin lent (view_plant p) (none_held Begin lent (view_plant p) _ refl h)

  pub opens_form : (sessions_form p.sessions ≡ true → sessions_form t ≡ true) → plant_form p ≡ true → plant_form with_begun ≡ true
  opens_form g f = form_with_next _ (p.next + 1) (form_with_sessions p t g f)
