-- Changes through their views: one law for each way out of a method.
use Prim.Native.Nat.{ℕ, ◌+◌, ◌≤◌, ◌<◌}
use mathlib.Core.Path.{◌≡◌, refl, sym, ◌∙◌, ap}
use mathlib.Core.Bool.{Bool, true, false, cond}
use mathlib.Core.List.{List, [], ◌∷◌, map}
use lib.ListN.{length, get_or, take, drop, drop_of_length-le, length-map, get_or-map}
use denote.Ref.{Bor}
use Rattle.std.specs.List.{HoldsAt}
use Rattle.std.specs.Prelude.{Option, Some, None, MatchOption}
use Rattle.rules.specs.Values as S
use Rattle.rules.specs.Changes as C
use Rattle.keys.specs.View.{view_place}
use Rattle.keys.specs.Form.{is_blank}
use Rattle.keys.specs.declared.Place.{Place}
use Rattle.field.specs.View.{view_field}
use Rattle.field.specs.declared.Field.{Field}
use Rattle.lists.specs.Find.{fold}
use Rattle.lists.proofs.Loops.{drop_next}
use Rattle.lists.proofs.Forms.{form_empty}
use Rattle.changes.specs.View.{view_update}
use Rattle.changes.specs.Form.{is_used, is_unused, changes_form}
use Rattle.changes.specs.declared.Update.{Update}

module _ (c : Update) (q : Place) where
  pub at_is : {r : Bool} → r ≡ S.same_place (view_place q) (view_place c.place) → r ≡ S.same_place (view_place q) (view_update c).at
  unfolding view_update
  at_is e = e

  module _ (t : Bool) (a : t ≡ S.same_place (view_place q) (view_update c).at) where
    pub sets_here : {r : Bool} → t ≡ true → r ≡ C.is_set (C.kind_of c.kind) → r ≡ C.sets (view_place q) (view_update c)
    unfolding C.sets view_update
    sets_here e h = h ∙ rw (← a, e)

    pub sets_elsewhere : t ≡ false → t ≡ C.sets (view_place q) (view_update c)
    unfolding C.sets view_update
    sets_elsewhere e = e ∙ rw (← a, e)

module _ (c : Update) (q : Place) (f : Field) (t : Bool) (a : t ≡ S.same_place (view_place q) (view_update c).at) where
  pub after_here : {r : S.Field} → t ≡ true → r ≡ C.field_of (C.change (C.kind_of c.kind) c.value (view_field f)) (view_field f) → r ≡ C.field_after (view_place q) (view_field f) (view_update c)
  unfolding C.field_after C.updated view_update
  after_here e h = h ∙ rw (← a, e)

  pub after_elsewhere : t ≡ false → view_field f ≡ C.field_after (view_place q) (view_field f) (view_update c)
  unfolding C.field_after
  after_elsewhere e = rw (← a, e)

pub run_fold : (cs : List C.Update) (q : S.Place) (f : S.Field) → C.run cs q f ≡ fold (C.field_after q) f cs
unfolding fold
run_fold [] q f = refl
run_fold (c ∷ cs) q f = run_fold cs q (C.field_after q f c)

-- ── the change at i, if there is one: r is what `get` gave, b what the test of it answered ──
module _ (l : List C.Update) (q : S.Place) (xs : List Update) (e : map view_update xs ≡ l) (i : ℕ) (b : Bool) (P : Bor Update → Type 0) (k : (x : Bor Update) → P x → b ≡ C.sets q (view_update x.now)) where
  pub sets_there : (r : Option (Bor Update)) → MatchOption r (length xs ≤ i) (λ x. (i < length xs) × HoldsAt (λ y. x.now ≡ y) xs i) → MatchOption r (b ≡ false) P → b ≡ C.sets_it (take 1 (drop i l)) q
  sets_there None h t =
      let m : length l ≤ i = rw (← e, length-map) h in
      t ∙ sym (ap (λ z. C.sets_it (take 1 z) q) (drop_of_length-le l m))
  sets_there (Some x) h t =
      let m : i < length (map view_update xs) = rw length-map h.0 in
      let v : get_or (map view_update xs) i (view_update x.now) ≡ view_update x.now = get_or-map view_update xs i x.now ∙ ap view_update (sym (h.1 x.now)) in
      let u : drop i l ≡ view_update x.now ∷ drop (i + 1) (map view_update xs) = rw (← e) (drop_next (view_update x.now) (map view_update xs) i m ∙ ap (λ z. z ∷ drop (i + 1) (map view_update xs)) v) in
      k x t ∙ sym (ap (λ z. C.sets_it (take 1 z) q) u ∙ itself (C.sets q (view_update x.now)))
    where
      itself : (b : Bool) → cond b true false ≡ b
      itself true = refl
      itself false = refl

pub unused_is : (q : Place) → is_blank q ≡ true → is_unused (record { place = q; kind = 0; value = lib.IntN.pos 0 }) ≡ true
unfolding is_unused
unused_is q e = rw e

pub changes_empty : (c : Update) → is_unused c ≡ true → changes_form (record { count = 0; items = c ∷ c ∷ c ∷ c ∷ c ∷ c ∷ c ∷ c ∷ [] }) ≡ true
unfolding changes_form
changes_empty c e = form_empty 8 is_used is_unused c e
