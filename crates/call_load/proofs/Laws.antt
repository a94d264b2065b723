-- What load answers and leaves, one law for each way out.
use mathlib.Core.Path.{◌≡◌, refl, sym, ◌∙◌, ap}
use mathlib.Core.Bool.{true, false, ◌&&◌, true≢false}
use mathlib.Core.Option.{none}
use mathlib.Core.List.{List, [], ◌∷◌}
use Prim.Native.Nat.{◌≤◌, ◌<◌}
use lib.IntN.{ℤ}
use mir.Syntax.{w64}
use mir.Val.{SFits}
use mir.Facts.{to_z-of_z}
use borrow.Author.Tests.{lt-ltb, le-ltb, not-false}
use Rattle.std.specs.Prelude.{Option, Some, None, is_some, IfSome, Result, Ok, Err, is_ok}
use Rattle.rules.specs.Limits.{document_count, field_count, first_session}
use Rattle.rules.specs.Values.{nat_of, in_range}
use Rattle.rules.specs.Refusals.{out_of_range, session_begun, store_away, ◌⇒◌}
use Rattle.rules.specs.Changes as U
use Rattle.rules.specs.Changes.{place_of, update_of, meets, follow}
use Rattle.rules.specs.Calls as C
use Rattle.rules.specs.Calls.{Load, refused, fine}
use Rattle.rules.specs.Conditions.{conditions, good_place, good_change}
use Rattle.rules.specs.Effects.{loaded}
use Rattle.rules.specs.Step.{accepted}
use Rattle.rules.proofs.Laws.{not_met, and_true, both, below_is}
use Rattle.answers.specs.View.{view_refusal, refusal_met}
use Rattle.answers.specs.declared.Refusal.{Refusal}
use Rattle.promises.specs.Promise.{result, Performs}
use Rattle.promises.proofs.Telling.{refuses, accepts, none_held, left_accepted}
use Rattle.arguments.proofs.Numbers.{held}
use Rattle.arguments.proofs.change.Asked.{asked_bad, asked_good, asked_is, asked_place}
use Rattle.keys.specs.View.{view_place}
use Rattle.field.specs.View.{view_field}
use Rattle.field.specs.declared.Field.{Field}
use Rattle.changes.specs.View.{view_update}
use Rattle.changes.specs.declared.Update.{Update}
use Rattle.store.specs.View.{view_store, ranged}
use Rattle.store.specs.declared.Store.{Store}
use Rattle.store.proofs.StoreLaws.{view_ranged, follow_within}
use Rattle.plant.specs.View.{view_plant, kept_plant}
use Rattle.plant.specs.With.{with_store}
use Rattle.plant.specs.declared.Plant.{Plant}

-- ── a place in range ──
place_in : (x y : ℤ) → good_place x y ≡ true → in_range (place_of x y) ≡ true
place_in x y g =
    let h = and_true _ _ g in
    both _ _ (lt-ltb (nat_of x) document_count (below_is x document_count h.0)) (lt-ltb (nat_of y) field_count (below_is y field_count h.1))

none_refused : (r : Result (Unit {0}) Refusal) → is_ok r ≡ true → refusal_met r ≡ none
none_refused (Ok u) h = refl
none_refused (Err q) h = cc

-- ── o is the change read ──
module _ (o : Option Update) (p : Plant) (x y z v : ℤ) (wx : SFits w64 x) (wy : SFits w64 y) (wz : SFits w64 z) (wv : SFits w64 v)
    (eg : is_some o ≡ good_place (held x) (held y) && good_change (held z) (held v)) (lent : List ℤ) (kept : kept_plant p ≡ true) where
  abbrev Answered : C.Answer → Type 0
  Answered a = a ≡ (result (Load x y z v) lent p).answer

  pub out_of_range_lem : o ≡ None → Answered (refused out_of_range)
  unfolding conditions ◌⇒◌
  out_of_range_lem h = refuses (Load x y z v) lent (view_plant p) _ (rw (asked_bad x y z v wx wy wz wv o eg h) refl)

  module _ (h : is_some o ≡ true) where
    good : good_place x y && good_change z v ≡ true
    good = sym (rw (to_z-of_z wx, to_z-of_z wy, to_z-of_z wz, to_z-of_z wv) at eg) ∙ h

    pub begun : first_session < p.next → Answered (refused session_begun)
    unfolding conditions view_plant ◌⇒◌
    begun b = refuses (Load x y z v) lent (view_plant p) _ (rw (good, lt-ltb first_session p.next b) refl)

    pub away : p.next ≤ first_session → p.near ≡ false → Answered (refused store_away)
    unfolding conditions view_plant ◌⇒◌
    away b i = refuses (Load x y z v) lent (view_plant p) _ (rw (good, le-ltb first_session p.next b, i) refl)

module _ (o : Option Update) (c : Update) (r : Result (Unit {0}) Refusal) (p : Plant) (x y z v : ℤ) (wx : SFits w64 x) (wy : SFits w64 y) (wz : SFits w64 z) (wv : SFits w64 v) (ec : o ≡ Some c)
    (eg : is_some o ≡ good_place (held x) (held y) && good_change (held z) (held v))
    (es : IfSome o (λ c. view_update c ≡ update_of (place_of (held x) (held y)) (nat_of (held z)) (held v)))
    (f : Field) (ef : view_field f ≡ view_store p.store (view_place c.place)) (er : refusal_met r ≡ meets (view_update c) (view_field f))
    (b : p.next ≤ first_session) (i : p.near ≡ true) (lent : List ℤ) (kept : kept_plant p ≡ true) where
  taken : good_place x y && good_change z v ≡ true
  taken = asked_good x y z v wx wy wz wv o eg c ec

  meeting : meets (update_of (place_of x y) (nat_of z) v) (view_store p.store (place_of x y)) ≡ refusal_met r
  meeting = sym (er ∙ rw (ef, asked_place x y z v wx wy wz wv o es c ec, asked_is x y z v wx wy wz wv o es c ec) refl)

  pub done : is_ok r ≡ true → fine [] ≡ (result (Load x y z v) lent p).answer
  unfolding conditions view_plant ◌⇒◌ accepted
  done g = accepts (Load x y z v) lent (view_plant p) (rw (taken, le-ltb first_session p.next b, i, meeting, none_refused r g) refl)

  pub met : (q : Refusal) → r ≡ Err q → refused (view_refusal q) ≡ (result (Load x y z v) lent p).answer
  unfolding conditions view_plant ◌⇒◌
  met q g = refuses (Load x y z v) lent (view_plant p) _ (rw (taken, le-ltb first_session p.next b, i, meeting, g) refl)

-- ── the plant left ──
module _ (p : Plant) (x y z v : ℤ) (wx : SFits w64 x) (wy : SFits w64 y) (wz : SFits w64 z) (wv : SFits w64 v) (o : Option Update) where
  module _ (eg : is_some o ≡ good_place (held x) (held y) && good_change (held z) (held v)) (h : o ≡ None) where
    -- no change is made, and no load is accepted
    pub left_alone : Performs (Load x y z v) p (with_store p p.store)
    unfolding conditions
    left_alone kept lent a =
        let m = none_held (Load x y z v) lent (view_plant p) _ refl a in
        absurd (true≢false (sym (not-false _ (not_met _ out_of_range m.0)) ∙ asked_bad x y z v wx wy wz wv o eg h))

  module _ (es : IfSome o (λ c. view_update c ≡ update_of (place_of (held x) (held y)) (nat_of (held z)) (held v))) (u : Update) (h : o ≡ Some u)
      (st : Store) (et : view_store st ≡ ranged (follow (view_store p.store) (view_update u ∷ []))) where
    stored : good_place x y && good_change z v ≡ true → view_store st ≡ follow (view_store p.store) (update_of (place_of x y) (nat_of z) v ∷ [])
    stored g =
        et ∙ ap (λ (c : U.Update). ranged (follow (view_store p.store) (c ∷ []))) (asked_is x y z v wx wy wz wv o es u h)
        ∙ follow_within (update_of (place_of x y) (nat_of z) v ∷ []) (view_store p.store) (view_ranged p.store)
        (both _ _ (place_in x y (and_true _ _ g).0) refl)

    pub made : Performs (Load x y z v) p (with_store p st)
    unfolding conditions view_plant accepted loaded
    made kept lent a =
        let m = none_held (Load x y z v) lent (view_plant p) _ refl a in
        let g : good_place x y && good_change z v ≡ true = not-false (good_place x y && good_change z v) (not_met _ out_of_range m.0) in
        rw (stored g) refl
        ∙ left_accepted (Load x y z v) lent (view_plant p) m
