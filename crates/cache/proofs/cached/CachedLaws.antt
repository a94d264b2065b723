-- A cached key through its view: one law for each way out of a method.
use Prim.Native.Nat.{ℕ, ◌≤◌}
use native.Mathlib.Omega.{arith}
use mathlib.Core.Path.{◌≡◌, sym, ◌∙◌, ap}
use mathlib.Core.Bool.{Bool, true, false}
use mathlib.Core.List.{List, [], ◌∷◌, map}
use lib.ListN.{length, get_or, take}
use lib.Dec.{eqb}
use borrow.Author.Tests.{eq-eqb}
use Rattle.std.specs.declared.option.Option.{Option}
use Rattle.std.specs.declared.option.Option.TheVariants.{Some, None}
use Rattle.std.specs.Option.{MatchOption, option_map}
use Rattle.std.specs.List.{find, zip}
use Rattle.rules.specs.Lists.{all}
use Rattle.rules.proofs.Tests.{all_head, all_tail}
use Rattle.rules.proofs.Laws.{by_case}
use Rattle.rules.specs.Limits.{place_limit}
use Rattle.rules.specs.Lists.{pushed}
use Rattle.rules.specs.Values as S
use Rattle.rules.specs.Changes as C
use Rattle.rules.specs.Tables as M
use Rattle.rules.specs.Reading as D
use Rattle.rules.specs.Effects.{touched}
use Rattle.rules.proofs.Laws.{both}
use Rattle.rules.proofs.Words.{run_untouched}
use Rattle.keys.specs.View.{no_place, view_place, view_key, view_keys}
use Rattle.keys.specs.declared.Place.{Place}
use Rattle.keys.specs.declared.Key.{Key}
use Rattle.keys.specs.declared.Keys.{Keys}
use Rattle.field.specs.View.{view_field, field_form}
use Rattle.field.specs.declared.Field.{Field}
use Rattle.field.proofs.ViewLaws.{form_of}
use Rattle.changes.specs.View.{view_changes}
use Rattle.changes.specs.declared.Changes.{Changes}
use Rattle.lists.specs.Find.{map_from}
use Rattle.lists.specs.Table.{counted}
use Rattle.lists.proofs.Views.{counted-length, map_same}
use Rattle.lists.proofs.Iterators.{counted_taken}
use Rattle.lists.proofs.Indexed.{none_index}
use Rattle.lists.proofs.Forms.{form_parts, form_empty}
use Rattle.cache.specs.cached.View.{no_cached, with_field, view_cached, after_changes}
use Rattle.cache.specs.cached.Form.{is_blank_field, cached_form, is_blank_cached}
use Rattle.cache.specs.declared.cached.Cached.{Cached}

blank_field : (f : Field) → view_field f ≡ S.absent → field_form f ≡ true → is_blank_field f ≡ true
unfolding is_blank_field
blank_field f e h = both (eqb f.kind 0) (field_form f) (eq-eqb f.kind 0 ((form_of h).kind ∙ rw e)) h

pub of_form : (k : ℕ) (f : Field) → view_field f ≡ S.absent → field_form f ≡ true → cached_form (record { key = k; count = 0; fields = f ∷ f ∷ f ∷ f ∷ [] }) ≡ true
unfolding cached_form
of_form k f e h = form_empty 4 field_form is_blank_field f (blank_field f e h)

-- the key 0 without fields is not in use
pub blank_cached : (c : Cached) → view_cached c ≡ no_cached → cached_form c ≡ true → is_blank_cached c ≡ true
unfolding is_blank_cached cached_form view_cached
blank_cached c e h =
    let f = form_parts 4 field_form is_blank_field c.count c.fields h in
    let n : c.count ≡ 0 = omega (arith, f.within, counted-length view_field c.count c.fields 4 f.long, ap (λ (x : M.Cached). length x.fields) e) in
    rw (ap (λ (x : M.Cached). x.key) e, n) (rw n at h)

-- ── after changes ──
pub after_is : (t c : Cached) (cs : List C.Update) (qs : List S.Place) → (view_cached t).key ≡ c.key → (view_cached t).fields ≡ map_from (λ i f. C.run cs (get_or qs i no_place) f) 0 (view_cached c).fields → view_cached t ≡ after_changes cs qs (view_cached c)
unfolding after_changes view_cached
after_is t c cs qs k e = λ i. record { key = k i; fields = e i }

module _ (t r : Cached) (f : S.Field) (a : view_cached r ≡ with_field f (view_cached t)) where
  pub pushed_key : {k : ℕ} → (view_cached t).key ≡ k → (view_cached r).key ≡ k
  unfolding with_field
  pushed_key e = ap (λ (c : M.Cached). c.key) a ∙ e

pub pushed-fields : (t r : Cached) (f old : Field) (q : Place) (key : Key) (cs : Changes) (i : ℕ) → view_cached r ≡ with_field (view_field f) (view_cached t) → view_field f ≡ C.run (view_changes cs) (view_place q) (view_field old) → view_place q ≡ get_or (view_key key) i no_place
    → (view_cached r).fields ≡ pushed place_limit (view_cached t).fields (C.run (view_changes cs) (get_or (view_key key) i no_place) (view_field old))
unfolding with_field
pushed-fields t r f old q key cs i a b e = ap (λ (c : M.Cached). c.fields) a ∙ ap (pushed place_limit (view_cached t).fields) (b ∙ ap (λ (p : S.Place). C.run (view_changes cs) p (view_field old)) e)

pub dated_is : (c : Cached) (keys : Keys) (k : Key) (cs : List C.Update) {r : M.Cached} → view_key k ≡ view_keys keys c.key → r ≡ after_changes cs (view_key k) (view_cached c) → r ≡ after_changes cs (view_keys keys (view_cached c).key) (view_cached c)
unfolding view_cached
dated_is c keys k cs e h = h ∙ ap (λ (qs : List S.Place). after_changes cs qs (view_cached c)) e

-- none of its places touched, and no field past them
pub untouched_is : (c : Cached) (k : Key) (cs : List C.Update) {t : Bool} → length c.fields ≡ 4 → length k.places ≡ 4 → c.count ≤ k.count → t ≡ touched cs (view_key k) → t ≡ false → view_cached c ≡ after_changes cs (view_key k) (view_cached c)
unfolding after_changes view_cached view_key
untouched_is c k cs l m h a e =
    ap (λ (fs : List S.Field). record { key = c.key; fields = fs })
    (map_same (λ i f. C.run cs (get_or (view_key k) i no_place) f) 0 (counted view_field c.count c.fields)
    (λ j f o n. run_untouched cs (get_or (view_key k) j no_place) f
    (none_index (C.touches cs) (view_key k) j no_place (omega (arith, counted-length view_field c.count c.fields 4 l, counted-length view_place k.count k.places 4 m)) (sym a ∙ e))))

-- a field, for what lies past a list's end
pub no_field : Field
no_field = record { kind = 0; count = 0; values = [] }

-- ── the field of a place: of the pairs of a place and a field, the field of the first pair of the place, or e ──
unfoldable picked : Field → Option (Place × Field) → Field
picked e None = e
picked e (Some p) = p.1

abbrev pub found : S.Place → List Place → List Field → Option (Place × Field)
found q ps fs = find (λ p. S.same_place q (view_place p.0)) (zip ps fs)

module _ (q : S.Place) (e : Field) where
  picked_shows : (ps : List Place) (fs : List Field) → view_field e ≡ S.absent → view_field (picked e (found q ps fs)) ≡ D.field_at q (map view_place ps) (map view_field fs)
  unfolding picked
  picked_shows [] fs a = a
  picked_shows (p ∷ ps) [] a = a
  picked_shows (p ∷ ps) (f ∷ fs) a = by_case (S.same_place q (view_place p)) (λ t. rw t) (λ t. rw t (picked_shows ps fs a))

  picked_form : (ps : List Place) (fs : List Field) → field_form e ≡ true → all field_form fs ≡ true → field_form (picked e (found q ps fs)) ≡ true
  unfolding picked
  picked_form [] fs a h = a
  picked_form (p ∷ ps) [] a h = a
  picked_form (p ∷ ps) (f ∷ fs) a h =
      by_case (S.same_place q (view_place p))
      (λ t. rw t (all_head field_form f fs h))
      (λ t. rw t (picked_form ps fs a (all_tail field_form f fs h)))

-- r is what `find` answered, v x the pair that x stands for, and o what `map_or` made of r
is_picked : {X : Type 0} (e : Field) (v : X → Place × Field) (r : Option X) {o : Field} {Q : X → Type 0} → MatchOption r (o ≡ e) Q → ((x : X) → Q x → o ≡ (v x).1) → o ≡ picked e (option_map v r)
unfolding picked
is_picked e v None m h = m
is_picked e v (Some x) m h = h x m

module _ {X : Type 0} (v : X → Place × Field) (r : Option X) (c : Cached) (q : Place) (ps : List Place) {o : Field} (e : Field) {Q : X → Type 0}
    (g : option_map v r ≡ found (view_place q) ps (take c.count c.fields)) (m : MatchOption r (o ≡ e) Q) (h : (x : X) → Q x → o ≡ (v x).1) where
  pub field_shows : (k : Key) → map view_place ps ≡ view_key k → view_field e ≡ S.absent → view_field o ≡ D.field_at (view_place q) (view_key k) (view_cached c).fields
  unfolding view_cached
  field_shows k s a = rw (is_picked e v r m h, g, ← s, counted_taken view_field c.count c.fields) (picked_shows (view_place q) e ps (take c.count c.fields) a)

  pub field_in_form : field_form e ≡ true → cached_form c ≡ true → field_form o ≡ true
  unfolding cached_form
  field_in_form a f =
      rw (is_picked e v r m h, g)
      (picked_form (view_place q) e ps (take c.count c.fields) a (form_parts 4 field_form is_blank_field c.count c.fields f).in_use)
