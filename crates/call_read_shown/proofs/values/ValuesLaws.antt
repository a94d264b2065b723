-- The fields of a key's places, and the words that show them: one law for each way out of a function.
use mathlib.Core.Path.{◌≡◌, refl, sym, ◌∙◌, ap}
use mathlib.Core.Bool.{true, cond}
use mathlib.Core.List.{List, [], ◌∷◌, ◌++◌, append_assoc, append-nil, map}
use Prim.Native.Nat.{ℕ, ◌+◌, ◌-◌, ◌*◌, ◌≤◌, ◌<◌, min}
use native.Mathlib.Numerals.{add-one}
use native.Mathlib.Omega.{arith}
use lib.Dec.{leb}
use lib.IntN.{ℤ}
use lib.ListN.{length, get_or, take, drop, length-append, length-drop, length-map, length-take, drop_of_length-le}
use lib.Seq.{take_all, take_at, drop_at, drop-drop, take-suc}
use borrow.Author.Tests.{le-leb, lt-leb}
use borrow.Rule.Slice.PartMut.{put_mid}
use Rattle.rules.specs.Limits.{place_limit, words_per_field}
use Rattle.rules.specs.Lists.{pushed}
use Rattle.rules.specs.Values as S
use Rattle.rules.specs.Values.{show, show_all}
use Rattle.rules.specs.Tables as M
use Rattle.keys.specs.View.{view_place, view_key}
use Rattle.keys.specs.declared.Place.{Place}
use Rattle.keys.specs.declared.Key.{Key}
use Rattle.field.specs.View.{view_field, field_form}
use Rattle.field.specs.declared.Field.{Field}
use Rattle.field.proofs.WordLaws.{show-length}
use Rattle.lists.proofs.Views.{counted-length, counted-at, map_is}
use Rattle.cache.specs.cached.View.{view_cached, with_field}
use Rattle.cache.specs.cached.Form.{cached_form}
use Rattle.cache.specs.declared.cached.Cached.{Cached}
use Rattle.lists.specs.Find.{map_from}
use Rattle.lists.proofs.Iterators.{Placing, place_used, place_next, place_end, counted_taken}
use Rattle.call_read_shown.specs.values.Shown.{shown_in}

-- ── a loop that puts a field for each place of a key into a cached key of number k; `met q f` says that f is one for the place q ──
pub record Filling (met : Place → Field → Type 0) (key : Key) (k : ℕ) (qs : List Place) (t : Cached) (i : ℕ) : Type 0 where
  pub made : (g : S.Place → S.Field) → ((q : Place) (f : Field) → met q f → view_field f ≡ g (view_place q)) → Placing view_place (λ j. g) place_limit qs (map_from (λ j. g) 0 (view_key key)) (view_cached t).fields i
  pub number : (view_cached t).key ≡ k
  pub form : ((q : Place) (f : Field) → met q f → field_form f ≡ true) → cached_form t ≡ true

module _ {met : Place → Field → Type 0} {key : Key} {k : ℕ} {qs : List Place} {t : Cached} where
  pub fill_start : length key.places ≡ 4 → qs ≡ take key.count key.places → view_cached t ≡ record { key = k; fields = [] } → cached_form t ≡ true → Filling met key k qs t 0
  unfolding view_key
  fill_start l u e f =
      record {
        made = λ g m. place_used key.count key.places l u (ap (λ (x : M.Cached). x.fields) e);
        number = ap (λ (x : M.Cached). x.key) e;
        form = λ m. f;
      }

  module _ {i : ℕ} (inv : Filling met key k qs t i) where
    pub fill_next : {r : Cached} {f : Field} (d : Place) → i < length qs → met (get_or qs i d) f → view_cached r ≡ with_field (view_field f) (view_cached t) → (field_form f ≡ true → cached_form t ≡ true → cached_form r ≡ true) → Filling met key k qs r (i + 1)
    unfolding with_field
    fill_next {f = f} d h m e o =
        record {
          made = λ g w. place_next (inv.made g w) d h (ap (λ (x : M.Cached). x.fields) e ∙ ap (pushed place_limit (view_cached t).fields) (w (get_or qs i d) f m));
          number = ap (λ (x : M.Cached). x.key) e ∙ inv.number;
          form = λ w. o (w (get_or qs i d) f m) (inv.form w);
        }

    pub fill_end : length qs ≤ i → (g : S.Place → S.Field) → ((q : Place) (f : Field) → met q f → view_field f ≡ g (view_place q)) → view_cached t ≡ record { key = k; fields = map g (view_key key) }
    fill_end h g w = λ j. record { key = inv.number j; fields = (place_end (inv.made g w) h ∙ sym (map_is g 0 (view_key key))) j }

-- ── the number of fields ──
pub len_used : (c : Cached) {ys : List Field} → ys ≡ take c.count c.fields → length ys ≡ length (view_cached c).fields
unfolding view_cached
len_used c u = rw (u, counted_taken view_field c.count c.fields) (sym (length-map (take c.count c.fields) view_field))

module _ (c : Cached) (l : length c.fields ≡ 4) where
  pub len_few : {ys : List Field} → ys ≡ take c.count c.fields → length ys ≤ place_limit
  len_few u = rw (u, length-take c.count c.fields) (omega (arith, l))

  field_at_lem : (i : ℕ) (d : Field) → i < length (view_cached c).fields → view_field (get_or c.fields i d) ≡ get_or (view_cached c).fields i S.absent
  unfolding view_cached
  field_at_lem i d h =
      let m : length (view_cached c).fields ≡ min c.count 4 = counted-length view_field c.count c.fields 4 l in
      counted-at view_field c.count c.fields d S.absent i (omega arith) (omega arith)

-- ── a loop that shows the fields fs, eight words for each, at the front of v ──
pub record Showing (fs : List S.Field) (v vs : List ℤ) (i : ℕ) : Type 0 where
  pub room : words_per_field * length fs ≤ length v
  pub at : i ≤ length fs
  pub rest : vs ≡ show_all (take i fs) ++ drop (words_per_field * i) v
  pub eights : length (show_all (take i fs)) ≡ words_per_field * i

show_last : (fs : List S.Field) (f : S.Field) → show_all (fs ++ (f ∷ [])) ≡ show_all fs ++ show f
show_last [] f = append-nil (show f)
show_last (g ∷ fs) f = ap (λ (l : List ℤ). show g ++ l) (show_last fs f) ∙ sym (append_assoc (show g) (show_all fs) (show f))

module _ (c : Cached) (n : ℕ) (e : n ≡ length (view_cached c).fields) (v : List ℤ) where
  pub too_few : length v < words_per_field * n → v ≡ shown_in (view_cached c).fields v
  unfolding shown_in
  too_few h = rw (sym e, lt-leb (words_per_field * n) (length v) h) refl

  pub show_start : words_per_field * n ≤ length v → Showing (view_cached c).fields v v 0
  show_start h = record { room = rw (sym e) h; at = omega arith; rest = refl; eights = refl }

  module _ {vs : List ℤ} {i : ℕ} (inv : Showing (view_cached c).fields v vs i) where
    pub words_length : length vs ≡ length v
    words_length =
        let a = inv.at in
        let b = inv.room in
        let q = inv.eights in
        rw inv.rest (simp (length-append, length-drop) (omega arith))

    -- the part that is lent on
    part : take (length vs - words_per_field * i) (drop (words_per_field * i) vs) ≡ drop (words_per_field * i) v
    part =
        let q : length (drop (words_per_field * i) vs) ≤ length vs - words_per_field * i = simp length-drop (omega arith) in
        take_all (length vs - words_per_field * i) (drop (words_per_field * i) vs) q ∙ rw inv.rest (drop_at (show_all (take i (view_cached c).fields)) (drop (words_per_field * i) v) (words_per_field * i) inv.eights)

    module _ (h : i < n) (l : length c.fields ≡ 4) (d : Field) (ys : List ℤ)
        (w : ys ≡ cond (leb words_per_field (length (take (length vs - words_per_field * i) (drop (words_per_field * i) vs)))) (show (view_field (get_or c.fields i d)) ++ drop words_per_field (take (length vs - words_per_field * i) (drop (words_per_field * i) vs))) (take (length vs - words_per_field * i) (drop (words_per_field * i) vs))) where
      abbrev fs : List S.Field
      fs = (view_cached c).fields

      abbrev new : List ℤ
      new = show (get_or fs i S.absent)

      written : ys ≡ new ++ drop (words_per_field * (i + 1)) v
      written =
          let b = inv.room in
          let m : words_per_field ≤ length (drop (words_per_field * i) v) = simp length-drop (omega arith) in
          let z : words_per_field * i + words_per_field ≡ words_per_field * (i + 1) = omega arith in
          w ∙ rw (part, le-leb words_per_field (length (drop (words_per_field * i) v)) m, field_at_lem c l i d (omega arith))
          (ap (λ (p : List ℤ). new ++ p) (drop-drop words_per_field (words_per_field * i) v ∙ ap (λ (p : ℕ). drop p v) z))

      one_more : show_all (take (i + 1) fs) ≡ show_all (take i fs) ++ new
      one_more = rw (add-one i, take-suc fs i S.absent (omega arith)) (show_last (take i fs) (get_or fs i S.absent))

      pub show_next : Showing fs v (put_mid (words_per_field * i) (length vs - words_per_field * i) vs ys) (i + 1)
      show_next =
          let g = inv.eights in
          let q : length (drop (words_per_field * i) vs) ≤ length vs - words_per_field * i = simp length-drop (omega arith) in
          let s : take (words_per_field * i) vs ≡ show_all (take i fs) = rw inv.rest (take_at (show_all (take i fs)) (drop (words_per_field * i) v) (words_per_field * i) g) in
          record {
            room = inv.room;
            at = omega arith;
            rest =
                ap (λ (p : List ℤ). take (words_per_field * i) vs ++ (ys ++ p)) (drop_of_length-le (drop (words_per_field * i) vs) q)
                ∙ ap (λ (p : List ℤ). take (words_per_field * i) vs ++ p) (append-nil ys)
                ∙ rw (s, written, one_more) (sym (append_assoc (show_all (take i fs)) new (drop (words_per_field * (i + 1)) v)));
            eights = rw one_more (simp length-append (omega (arith, show-length (get_or fs i S.absent))));
          }

    pub show_end : n ≤ i → vs ≡ shown_in (view_cached c).fields v
    unfolding shown_in
    show_end h =
        let a = inv.at in
        let q : i ≡ length (view_cached c).fields = omega arith in
        inv.rest ∙ rw (q, take_all (length (view_cached c).fields) (view_cached c).fields (omega arith), le-leb (words_per_field * length (view_cached c).fields) (length v) inv.room) refl
