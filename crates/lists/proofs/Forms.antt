-- The one form of a table: empty, one more, and that a table in form is what it shows.
use Prim.Native.Nat.{ℕ, zero, suc, ◌+◌, ◌-◌, ◌≤◌, ◌<◌}
use native.Mathlib.Omega.{arith}
use native.Mathlib.Numerals.{add-one}
use mathlib.Core.Path.{◌≡◌, refl, sym, ◌∙◌, ap}
use mathlib.Core.Bool.{Bool, true, false, ◌&&◌}
use mathlib.Core.List.{List, [], ◌∷◌, map}
use lib.ListN.{length, get_or, take, drop, set, replicate, length-drop, length-take, length-set, length-replicate}
use lib.Seq.{ext_get_or, get_or-take, get_or-drop, take-suc-set}
use lib.Dec.{eqb, leb}
use borrow.Author.Tests.{leb-true, leb-false, le-leb, eqb-true, eq-eqb}
use Rattle.rules.specs.Lists.{all}
use Rattle.rules.proofs.Laws.{and_true, both}
use Rattle.rules.proofs.Tests.{all_tail, all_snoc}
use Rattle.lists.specs.Table.{counted, table_form, array_form}
use Rattle.lists.proofs.Views.{counted-length, counted-at}
use Rattle.lists.proofs.Indexed.{all_index, all_set, at_index}

pub all_replicate : {A : Type 0} (p : A → Bool) (k : ℕ) (e : A) → p e ≡ true → all p (replicate k e) ≡ true
all_replicate p zero e h = refl
all_replicate p (suc k) e h = both (p e) (all p (replicate k e)) h (all_replicate p k e h)

pub record Formed {A : Type 0} (k : ℕ) (used unused : A → Bool) (n : ℕ) (xs : List A) : Type 0 where
  pub long : length xs ≡ k
  pub within : n ≤ k
  pub in_use : all used (take n xs) ≡ true
  pub rest : all unused (drop n xs) ≡ true

module _ {A : Type 0} (k : ℕ) (used unused : A → Bool) where
  pub form_parts : (n : ℕ) (xs : List A) → table_form k used unused n xs ≡ true → Formed k used unused n xs
  unfolding table_form
  form_parts n xs e =
      let a = and_true (eqb (length xs) k && leb n k && all used (take n xs)) (all unused (drop n xs)) e in
      let b = and_true (eqb (length xs) k && leb n k) (all used (take n xs)) a.0 in
      let c = and_true (eqb (length xs) k) (leb n k) b.0 in
      record { long = eqb-true (length xs) k c.0; within = leb-true n k c.1; in_use = b.1; rest = a.1 }

  pub parts_form : (n : ℕ) (xs : List A) → Formed k used unused n xs → table_form k used unused n xs ≡ true
  unfolding table_form
  parts_form n xs f =
      both (eqb (length xs) k && leb n k && all used (take n xs)) (all unused (drop n xs))
      (both (eqb (length xs) k && leb n k) (all used (take n xs)) (both (eqb (length xs) k) (leb n k) (eq-eqb (length xs) k f.long) (le-leb n k f.within)) f.in_use) f.rest

  -- an empty table
  pub form_empty : (e : A) → unused e ≡ true → table_form k used unused 0 (replicate k e) ≡ true
  form_empty e h = parts_form 0 (replicate k e) (record { long = length-replicate k e; within = omega arith; in_use = refl; rest = all_replicate unused k e h })

  drop-set : (n : ℕ) (xs : List A) (a : A) → all unused (drop n xs) ≡ true → all unused (drop (suc n) (set xs n a)) ≡ true
  drop-set zero [] a e = refl
  drop-set zero (x ∷ xs) a e = all_tail unused x xs e
  drop-set (suc n) [] a e = refl
  drop-set (suc n) (x ∷ xs) a e = drop-set n xs a e

  -- one more at the end
  pub form_push : (n : ℕ) (xs : List A) (a : A) → n < k → used a ≡ true → table_form k used unused n xs ≡ true → table_form k used unused (n + 1) (set xs n a) ≡ true
  form_push n xs a h u e =
      let f = form_parts n xs e in
      let m : n < length xs = omega (arith, f.long) in
      parts_form (n + 1) (set xs n a)
      (rw (add-one n)
      record {
        long = length-set xs n a ∙ f.long;
        within = h;
        in_use = rw (take-suc-set xs n a m) (all_snoc used (take n xs) a f.in_use u);
        rest = drop-set n xs a f.rest;
      })

  -- an entry in use, and one that is not
  pub used_at : (n : ℕ) (xs : List A) (i : ℕ) (d : A) → i < n → table_form k used unused n xs ≡ true → used (get_or xs i d) ≡ true
  used_at n xs i d h e =
      let f = form_parts n xs e in
      let l : i < length (take n xs) = rw (length-take n xs) (omega (arith, f.long, f.within)) in
      rw (get_or-take n xs i d h) at (all_index used (take n xs) i d l f.in_use)

  pub unused_at : (n : ℕ) (xs : List A) (i : ℕ) (d : A) → n ≤ i → i < length xs → table_form k used unused n xs ≡ true → unused (get_or xs i d) ≡ true
  unused_at n xs i d h m e =
      let r : n + (i - n) ≡ i = omega arith in
      let l : i - n < length (drop n xs) = rw (length-drop n xs) (omega arith) in
      rw (get_or-drop n xs (i - n) d, r) at (all_index unused (drop n xs) (i - n) d l (form_parts n xs e).rest)

  -- ── two tables in form that show the same are equal ──
  module _ {B : Type 0} (view : A → B) (same : (a b : A) → used a ≡ true → used b ≡ true → view a ≡ view b → a ≡ b) (alike : (a b : A) → unused a ≡ true → unused b ≡ true → a ≡ b) where
    table_count : (n m : ℕ) (xs ys : List A) → table_form k used unused n xs ≡ true → table_form k used unused m ys ≡ true → counted view n xs ≡ counted view m ys → n ≡ m
    table_count n m xs ys f g e =
        let a = form_parts n xs f in
        let b = form_parts m ys g in
        omega (arith, a.within, b.within, counted-length view n xs k a.long, counted-length view m ys k b.long, ap length e)

    pub table_same : (d : A) (n : ℕ) (xs ys : List A) → table_form k used unused n xs ≡ true → table_form k used unused n ys ≡ true → counted view n xs ≡ counted view n ys → xs ≡ ys
    table_same d n xs ys f g e = ext_get_or d xs ys (l ∙ sym r) (λ i h. go (leb (suc i) n) i h refl)
      where
        l : length xs ≡ k
        l = (form_parts n xs f).long

        r : length ys ≡ k
        r = (form_parts n ys g).long

        go : (b : Bool) (i : ℕ) → i < length xs → leb (suc i) n ≡ b → get_or xs i d ≡ get_or ys i d
        go true i h q =
            let w : i < n = leb-true (suc i) n q in
            let v : i < length ys = omega (arith, l, r) in
            same (get_or xs i d) (get_or ys i d) (used_at n xs i d w f) (used_at n ys i d w g)
            (counted-at view n xs d (view d) i w h ∙ ap (λ (z : List B). get_or z i (view d)) e ∙ sym (counted-at view n ys d (view d) i w v))
        go false i h q =
            let w : n ≤ i = omega (arith, leb-false (suc i) n q) in
            alike (get_or xs i d) (get_or ys i d) (unused_at n xs i d w h f) (unused_at n ys i d w (omega (arith, l, r)) g)

    pub table_unique : (d : A) (n m : ℕ) (xs ys : List A) → table_form k used unused n xs ≡ true → table_form k used unused m ys ≡ true → counted view n xs ≡ counted view m ys → (n ≡ m) × (xs ≡ ys)
    table_unique d n m xs ys f g e = (c, table_same d n xs ys f (rw (← c) at g) (e ∙ ap (λ (j : ℕ). counted view j ys) (sym c)))
      where
        c : n ≡ m
        c = table_count n m xs ys f g e

-- ── a table whose entries are all in use ──
module _ {A : Type 0} (k : ℕ) (used : A → Bool) where
  pub array_parts : (xs : List A) → array_form k used xs ≡ true → (length xs ≡ k) × (all used xs ≡ true)
  unfolding array_form
  array_parts xs e = let h = and_true (eqb (length xs) k) (all used xs) e in (eqb-true (length xs) k h.0, h.1)

  pub parts_array : (xs : List A) → length xs ≡ k → all used xs ≡ true → array_form k used xs ≡ true
  unfolding array_form
  parts_array xs l h = both (eqb (length xs) k) (all used xs) (eq-eqb (length xs) k l) h

  pub array_empty : (e : A) → used e ≡ true → array_form k used (replicate k e) ≡ true
  array_empty e h = parts_array (replicate k e) (length-replicate k e) (all_replicate used k e h)

  pub array_at : (xs : List A) (i : ℕ) (d : A) → i < k → array_form k used xs ≡ true → used (get_or xs i d) ≡ true
  array_at xs i d h e = let f = array_parts xs e in all_index used xs i d (omega (arith, f.0)) f.1

  pub array_set : (xs : List A) (i : ℕ) (a : A) → array_form k used xs ≡ true → used a ≡ true → array_form k used (set xs i a) ≡ true
  array_set xs i a e h = let f = array_parts xs e in parts_array (set xs i a) (length-set xs i a ∙ f.0) (all_set used xs i a f.1 h)

  -- two that show the same at each index are equal
  pub array_same : {B : Type 0} (view : A → B) (none : B) (d : A) → ((a b : A) → used a ≡ true → used b ≡ true → view a ≡ view b → a ≡ b) → (xs ys : List A) → array_form k used xs ≡ true → array_form k used ys ≡ true
      → ((i : ℕ) → get_or (map view xs) i none ≡ get_or (map view ys) i none) → xs ≡ ys
  array_same view none d same xs ys f g e = ext_get_or d xs ys (x.0 ∙ sym y.0) at
    where
      x : (length xs ≡ k) × (all used xs ≡ true)
      x = array_parts xs f

      y : (length ys ≡ k) × (all used ys ≡ true)
      y = array_parts ys g

      at : (i : ℕ) → i < length xs → get_or xs i d ≡ get_or ys i d
      at i h =
          let m : i < length ys = omega (arith, x.0, y.0) in
          same (get_or xs i d) (get_or ys i d) (all_index used xs i d h x.1) (all_index used ys i d m y.1)
          (at_index view none xs i d h ∙ e i ∙ sym (at_index view none ys i d m))
