-- The plant that change leaves.
use mathlib.Core.Path.{◌≡◌, refl, sym, ◌∙◌, ap, subst}
use mathlib.Core.Bool.{true, false, cond, ◌&&◌, true≢false}
use mathlib.Core.List.{List}
use Prim.Native.Nat.{ℕ}
use lib.Dec.{ltb}
use lib.IntN.{ℤ}
use mir.Syntax.{w64}
use mir.Val.{SFits}
use mir.Facts.{to_z-of_z}
use Rattle.std.specs.Prelude.{Option, Some, None, is_some, IfSome, unwrap_or}
use borrow.Author.Tests.{lt-ltb, not-false}
use Rattle.rules.specs.Limits.{document_count, field_count}
use Rattle.rules.specs.Values.{below, nat_of}
use Rattle.rules.specs.Refusals.{out_of_range, no_slot, was_doomed}
use Rattle.rules.specs.Changes.{place_of, update_of}
use Rattle.rules.specs.Tables as M
use Rattle.rules.specs.Calls.{Change}
use Rattle.rules.specs.Conditions.{good_place, good_change, conditions}
use Rattle.rules.specs.Effects.{changed}
use Rattle.rules.specs.Step.{accepted}
use Rattle.rules.proofs.Laws.{and_true, below_is, not_met, NoneMet}
use Rattle.arguments.specs.Numbers.{session_number}
use Rattle.arguments.proofs.Numbers.{held}
use Rattle.keys.specs.View.{view_place}
use Rattle.changes.specs.View.{view_update}
use Rattle.changes.specs.Form.{is_used}
use Rattle.changes.specs.declared.Update.{Update}
use Rattle.sessions.specs.session.View.{grant_at}
use Rattle.sessions.proofs.session.Granting.{grant_kept}
use Rattle.sessions.specs.View.{view_sessions}
use Rattle.sessions.specs.declared.Sessions.{Sessions}
use Rattle.plant.specs.View.{view_plant}
use Rattle.plant.specs.With.{with_sessions}
use Rattle.plant.specs.declared.Plant.{Plant}
use Rattle.plant.proofs.PlantLaws.{kept_parts}
use Rattle.promises.specs.Promise.{Performs}
use Rattle.promises.proofs.Telling.{none_held, left_accepted}
use Rattle.promises.proofs.Numbers.{slot_is, number_is}

-- the change as `made` says it, of the numbers as they were given
update_is : (d f k v : ℤ) → SFits w64 d → SFits w64 f → SFits w64 k → SFits w64 v → (c : Update) → (good_place (held d) (held f) && good_change (held k) (held v) ≡ true → view_update c ≡ update_of (place_of (held d) (held f)) (nat_of (held k)) (held v))
    → good_place d f && good_change k v ≡ true → view_update c ≡ update_of (place_of d f) (nat_of k) v
update_is d f k v fd ff fk fv c ec = rw (to_z-of_z fd, to_z-of_z ff, to_z-of_z fk, to_z-of_z fv) at ec

module _ (p : Plant) (z d f k v : ℤ) (fd : SFits w64 d) (ff : SFits w64 f) (fk : SFits w64 k) (fv : SFits w64 v)
    (c : Update) (ec : good_place (held d) (held f) && good_change (held k) (held v) ≡ true → view_update c ≡ update_of (place_of (held d) (held f)) (nat_of (held k)) (held v)) where
  was_good : (lent : List ℤ) → NoneMet (conditions (Change z d f k v) lent (view_plant p)) → good_place d f && good_change k v ≡ true
  unfolding conditions
  was_good lent m = not-false (good_place d f && good_change k v) (not_met _ out_of_range m.0)

  module _ (fz : SFits w64 z) (n : ℕ) (e : n ≡ session_number (held z))
      (t : Sessions) (et : view_sessions t ≡ cond (ltb c.place.document document_count) (M.each (grant_at p.clock n (view_update c)) (view_sessions p.sessions)) (view_sessions p.sessions)) where
    in_stock : good_place d f && good_change k v ≡ true → ltb c.place.document document_count ≡ true
    unfolding view_update view_place
    in_stock g =
        let x = and_true (below d document_count) (below f field_count) (and_true (good_place d f) (good_change k v) g).0 in
        ap (λ u. ltb u.at.document document_count) (update_is d f k v fd ff fk fv c ec g) ∙ lt-ltb (nat_of d) document_count (below_is d document_count x.0)

    pub changes : Performs (Change z d f k v) p (with_sessions p t)
    unfolding conditions view_plant accepted changed
    changes kept lent h =
        let m = none_held (Change z d f k v) lent (view_plant p) _ refl h in
        let g = was_good lent m in
        let i : M.is_slot z (view_sessions p.sessions) ≡ true = not-false _ (not_met _ no_slot m.1.0) in
        let q : nat_of z ≡ n = number_is (view_plant p) (kept_parts p kept) z fz n e (sym (slot_is (view_plant p) (kept_parts p kept) z fz n e) ∙ i) in
        let l : (M.session n (view_sessions p.sessions)).doomed ≡ false = subst (λ i. (M.session i (view_sessions p.sessions)).doomed ≡ false) q (not_met _ was_doomed m.1.1.0) in
        rw (et, in_stock g, grant_kept n (kept_parts p kept).slots l (view_update c), update_is d f k v fd ff fk fv c ec g, q) refl
        ∙ left_accepted (Change z d f k v) lent (view_plant p) m

-- ── the change that is made: o, or where a number is out of its range some change u ──
module _ (d f k v : ℤ) (o : Option Update) (u r : Update) (er : r ≡ unwrap_or o u) where
  pub made_is : is_some o ≡ (good_place d f && good_change k v) → IfSome o (λ c. view_update c ≡ update_of (place_of d f) (nat_of k) v) → good_place d f && good_change k v ≡ true → view_update r ≡ update_of (place_of d f) (nat_of k) v
  made_is eg ec g = go o er eg ec
    where
      go : (o : Option Update) → r ≡ unwrap_or o u → is_some o ≡ (good_place d f && good_change k v) → IfSome o (λ c. view_update c ≡ update_of (place_of d f) (nat_of k) v) → view_update r ≡ update_of (place_of d f) (nat_of k) v
      go None e i h = absurd (true≢false (sym g ∙ sym i))
      go (Some c) e i h = ap view_update e ∙ h

pub made_used : (o : Option Update) (u r : Update) → r ≡ unwrap_or o u → is_used u ≡ true → IfSome o (λ c. is_used c ≡ true) → is_used r ≡ true
made_used None u r e h i = ap is_used e ∙ h
made_used (Some c) u r e h i = ap is_used e ∙ i
