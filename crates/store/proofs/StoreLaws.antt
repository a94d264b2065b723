-- The data store through its view: one law for each way out of a method.
use Prim.Native.Nat.{ℕ, ◌<◌}
use native.Mathlib.Omega.{arith}
use mathlib.Core.Path.{◌≡◌, refl, sym, ◌∙◌, ap, fun_ext}
use mathlib.Core.Bool.{Bool, true, false, cond, true≢false}
use mathlib.Core.List.{List, [], ◌∷◌}
use lib.ListN.{length, get_or, set, replicate}
use lib.Dec.{eqb}
use Rattle.std.proofs.Common.{Option, Some, None}
use borrow.Author.Tests.{ltb-true, eqb-true, eqb-false, eq-eqb}
use Rattle.rules.specs.Limits.{document_count, field_count}
use Rattle.rules.specs.Lists.{all}
use Rattle.rules.specs.Values as S
use Rattle.rules.specs.Values.{in_range, same_place}
use Rattle.rules.specs.Changes as C
use Rattle.rules.proofs.Laws.{by_case, and_true, both, same_place_is}
use Rattle.keys.specs.View.{view_place}
use Rattle.keys.specs.declared.Place.{Place}
use Rattle.field.specs.View.{view_field, field_form}
use Rattle.field.specs.declared.Field.{Field}
use Rattle.changes.specs.View.{view_update}
use Rattle.changes.specs.declared.Update.{Update}
use Rattle.lists.specs.Find.{fold}
use Rattle.lists.proofs.Forms.{array_empty, array_at, array_set}
use Rattle.lists.proofs.Indexed.{at_index, set_index, copies_same}
use Rattle.store.specs.View.{index_of, ranged, view_store, store_form}
use Rattle.store.specs.declared.Store.{Store}

-- ── the index of a place ──
bounds : (q : S.Place) → in_range q ≡ true → (q.document < document_count) × (q.field < field_count)
bounds q e = let h = and_true _ _ e in (ltb-true _ _ h.0, ltb-true _ _ h.1)

index_below : (q : S.Place) → in_range q ≡ true → index_of q < 256
index_below q e = let h = bounds q e in omega (arith, h.0, h.1)

-- two places that there are have one index just if they are the same
same_index : (q r : S.Place) → in_range q ≡ true → in_range r ≡ true → eqb (index_of q) (index_of r) ≡ same_place q r
same_index q r e f =
    let a = bounds q e in
    let b = bounds r f in
    by_case (eqb (index_of q) (index_of r))
    (λ t. let n = eqb-true (index_of q) (index_of r) t in
    let d : q.document ≡ r.document = omega (arith, n, a.0, a.1, b.0, b.1) in
    let g : q.field ≡ r.field = omega (arith, n, d) in
    t ∙ sym (both _ _ (eq-eqb _ _ d) (eq-eqb _ _ g)))
    (λ t. t ∙ sym (by_case (same_place q r) (λ u. absurd (eqb-false (index_of q) (index_of r) t (ap index_of (same_place_is q r u)))) (λ u. u)))

abbrev indexed : S.Place → Option ℕ
indexed q = cond (in_range q) (Some (index_of q)) None

is_out : (q : S.Place) → None ≡ indexed q → in_range q ≡ false
is_out q e = by_case (in_range q) (λ t. let h = rw t at e in cc) (λ t. t)

module _ (q : S.Place) (i : ℕ) (e : Some i ≡ indexed q) where
  is_in : in_range q ≡ true
  is_in = by_case (in_range q) (λ t. t) (λ t. let h = rw t at e in cc)

  is_index : i ≡ index_of q
  is_index = let h = rw is_in at e in cc

  is_below : i < 256
  is_below = rw is_index (index_below q is_in)

-- ── a stock within the places ──
pub ranged_twice : (s : S.Stock) → ranged (ranged s) ≡ ranged s
unfolding ranged
ranged_twice s = fun_ext (λ q. by_case (in_range q) (λ t. rw t) (λ t. rw t))

pub view_ranged : (t : Store) → ranged (view_store t) ≡ view_store t
unfolding view_store
view_ranged t = ranged_twice _

-- ── the table ──
pub store_empty : (f : Field) → view_field f ≡ S.absent → view_store (record { fields = replicate 256 f }) ≡ (λ q. S.absent)
unfolding view_store ranged
store_empty f e = fun_ext (λ q. by_case (in_range q) (λ t. rw t (copies_same view_field S.absent 256 f (index_of q) e)) (λ t. rw t))

pub empty_form : (f : Field) → field_form f ≡ true → store_form (record { fields = replicate 256 f }) ≡ true
unfolding store_form
empty_form f e = array_empty 256 field_form f e

module _ (t : Store) (q : Place) where
  pub field_past : (r : Field) → None ≡ indexed (view_place q) → view_field r ≡ S.absent → view_field r ≡ view_store t (view_place q)
  unfolding view_store ranged
  field_past r e a = a ∙ rw (is_out (view_place q) e)

  module _ (i : ℕ) (e : Some i ≡ indexed (view_place q)) (l : length t.fields ≡ 256) (d : Field) where
    pub field_at_lem : view_field (get_or t.fields i d) ≡ view_store t (view_place q)
    unfolding view_store ranged
    field_at_lem =
        let h = is_below (view_place q) i e in
        at_index view_field S.absent t.fields i d (omega arith) ∙ rw (is_in (view_place q) i e, is_index (view_place q) i e)

    pub field_form_lem : store_form t ≡ true → field_form (get_or t.fields i d) ≡ true
    unfolding store_form
    field_form_lem f = array_at 256 field_form t.fields i d (is_below (view_place q) i e) f

-- ── a change ──
module _ (t : Store) (c : Update) where
  pub changed_past : None ≡ indexed (view_place c.place) → view_store t ≡ ranged (C.follow (view_store t) (view_update c ∷ []))
  unfolding view_store ranged view_update C.field_after
  changed_past e =
      fun_ext (λ q. by_case (in_range q)
      (λ w. rw (w, elsewhere q w (is_out (view_place c.place) e)))
      (λ w. rw w))
    where
      elsewhere : (q : S.Place) → in_range q ≡ true → in_range (view_place c.place) ≡ false → same_place q (view_place c.place) ≡ false
      elsewhere q w o = by_case (same_place q (view_place c.place)) (λ u. absurd (true≢false (sym w ∙ ap (λ (z : S.Place). in_range z) (same_place_is q (view_place c.place) u) ∙ o))) (λ u. u)

  module _ (i : ℕ) (e : Some i ≡ indexed (view_place c.place)) (l : length t.fields ≡ 256) (d f : Field)
      (a : view_field f ≡ C.field_after (view_place c.place) (view_field (get_or t.fields i d)) (view_update c)) where
    shown : (q : S.Place) → in_range q ≡ true → view_store (record { fields = set t.fields i f }) q ≡ cond (same_place q (view_place c.place)) (view_field f) (view_store t q)
    unfolding view_store ranged
    shown q w =
        let h = is_below (view_place c.place) i e in
        rw w (ap (λ (s : ℕ → S.Field). s (index_of q)) (set_index view_field S.absent t.fields i f (omega arith))
        ∙ rw (is_index (view_place c.place) i e, same_index q (view_place c.place) w (is_in (view_place c.place) i e)) refl)

    own : view_field f ≡ C.field_after (view_place c.place) (view_store t (view_place c.place)) (view_update c)
    own = a ∙ ap (λ (g : S.Field). C.field_after (view_place c.place) g (view_update c)) (field_at_lem t c.place i e l d)

    other : (q : S.Place) → same_place q (view_place c.place) ≡ false → view_store t q ≡ C.field_after q (view_store t q) (view_update c)
    unfolding C.field_after view_update
    other q u = rw u

    after_it : (q : S.Place) → cond (same_place q (view_place c.place)) (view_field f) (view_store t q) ≡ C.field_after q (view_store t q) (view_update c)
    after_it q =
        by_case (same_place q (view_place c.place))
        (λ u. rw u (own ∙ sym (ap (λ (z : S.Place). C.field_after z (view_store t z) (view_update c)) (same_place_is q _ u))))
        (λ u. ap (λ (b : Bool). cond b (view_field f) (view_store t q)) u ∙ other q u)

    within : (q : S.Place) → in_range q ≡ true → C.field_after q (view_store t q) (view_update c) ≡ ranged (C.follow (view_store t) (view_update c ∷ [])) q
    unfolding ranged
    within q w = rw w

    nowhere : (q : S.Place) → in_range q ≡ false → view_store (record { fields = set t.fields i f }) q ≡ ranged (C.follow (view_store t) (view_update c ∷ [])) q
    unfolding view_store ranged
    nowhere q w = rw w

    pub changed_at : view_store (record { fields = set t.fields i f }) ≡ ranged (C.follow (view_store t) (view_update c ∷ []))
    changed_at = fun_ext (λ q. by_case (in_range q) (λ w. shown q w ∙ after_it q ∙ within q w) (nowhere q))

pub changed_form : (t : Store) (i : ℕ) (d f : Field) → i < 256 → (field_form (get_or t.fields i d) ≡ true → field_form f ≡ true) → store_form t ≡ true → store_form (record { fields = set t.fields i f }) ≡ true
unfolding store_form
changed_form t i d f h g k = array_set 256 field_form t.fields i f k (g (array_at 256 field_form t.fields i d h k))

-- ── changes in their order ──
pub follow_fold : (cs : List C.Update) (s : S.Stock) → ranged s ≡ s → ranged (C.follow s cs) ≡ fold (λ x c. ranged (C.follow x (c ∷ []))) s cs
unfolding fold ranged
follow_fold [] s e = e
follow_fold (c ∷ cs) s e = step ∙ follow_fold cs (ranged (C.follow s (c ∷ []))) (ranged_twice _)
  where
    step : ranged (C.follow s (c ∷ cs)) ≡ ranged (C.follow (ranged (C.follow s (c ∷ []))) cs)
    step = fun_ext (λ q. by_case (in_range q) (λ w. rw w) (λ w. rw w))

-- changes of places that there are leave the others alone
run-elsewhere : (cs : List C.Update) (q : S.Place) (f : S.Field) → in_range q ≡ false → all (λ c. in_range c.at) cs ≡ true → C.run cs q f ≡ f
unfolding C.field_after
run-elsewhere [] q f o h = refl
run-elsewhere (c ∷ cs) q f o h = ap (C.run cs q) here ∙ run-elsewhere cs q f o (and_true (in_range c.at) (all (λ d. in_range d.at) cs) h).1
  where
    here : C.field_after q f c ≡ f
    here = by_case (same_place q c.at) (λ u. absurd (true≢false (sym (and_true (in_range c.at) (all (λ d. in_range d.at) cs) h).0 ∙ ap (λ (z : S.Place). in_range z) (sym (same_place_is q c.at u)) ∙ o))) (λ u. rw u)

pub follow_within : (cs : List C.Update) (s : S.Stock) → ranged s ≡ s → all (λ c. in_range c.at) cs ≡ true → ranged (C.follow s cs) ≡ C.follow s cs
unfolding ranged
follow_within cs s e h =
    fun_ext (λ q. by_case (in_range q)
    (λ t. rw t)
    (λ t. let z : S.absent ≡ s q = ap (λ (b : Bool). cond b (s q) S.absent) (sym t) ∙ ap (λ (x : S.Stock). x q) e in
    rw t (z ∙ sym (run-elsewhere cs q (s q) t h))))

-- those that a table may hold are such
pub ok_within : (cs : List C.Update) → all C.update_ok cs ≡ true → all (λ c. in_range c.at) cs ≡ true
ok_within [] h = refl
ok_within (c ∷ cs) h =
    let x = and_true (C.update_ok c) (all C.update_ok cs) h in
    both (in_range c.at) (all (λ d. in_range d.at) cs) (and_true (in_range c.at) (C.good_value c.kind c.value) x.0).0 (ok_within cs x.1)
