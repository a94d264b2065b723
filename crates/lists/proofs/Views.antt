-- Loops over a table that is seen through a view: what is still to do is `drop i (counted view n xs)`.
-- Assumes nothing.
use mathlib.Core.Path.{◌≡◌, refl, ◌∙◌, ap, ap₂, sym}
use mathlib.Core.Logic.{◌⊎◌, inl, inr}
use mathlib.Core.Bool.{Bool, true, false, not, cond}
use mathlib.Core.List.{List, [], ◌∷◌, ◌++◌, append-nil, append_assoc, map}
use Prim.Native.Nat.{ℕ, zero, suc, ◌+◌, ◌≤◌, ◌<◌, min}
use native.Mathlib.Numerals.{add-one}
use native.Mathlib.Omega.{arith}
use lib.Dec.{ltb, eqb, eqb-suc-zero}
use lib.ListN.{length, get_or, take, drop, set, drop_of_length-le, length-take, length-append, length-map, get_or-map, get_or-eq_default}
use lib.Seq.{take-suc-set, get_or-take, take_all, take_at}
use borrow.Author.Tests.{lt-ltb, le-ltb, ltb-true, ltb-false}
use Rattle.rules.specs.Lists.{from, keep, pushed, is_empty}
use Rattle.rules.proofs.Laws.{by_case}
use Rattle.lists.specs.Find.{first_at, fold, map_from}
use Rattle.lists.specs.Table.{counted}
use Rattle.lists.proofs.Loops.{drop-take_next, first_hit, first_miss, filled, fill_step, fill_end, get_d_within}

pub map-set : {A B : Type 0} (f : A → B) (xs : List A) (i : ℕ) (a : A) → map f (set xs i a) ≡ set (map f xs) i (f a)
map-set f [] i a = refl
map-set f (x ∷ xs) zero a = refl
map-set f (x ∷ xs) (suc i) a = ap (λ l. f x ∷ l) (map-set f xs i a)

pub take-map : {A B : Type 0} (f : A → B) (n : ℕ) (xs : List A) → take n (map f xs) ≡ map f (take n xs)
take-map f zero xs = refl
take-map f (suc n) [] = refl
take-map f (suc n) (x ∷ xs) = ap (λ l. f x ∷ l) (take-map f n xs)

module _ {A B : Type 0} (view : A → B) (n : ℕ) (xs : List A) where
  pub counted_next : (d : A) (i : ℕ) → i < n → i < length xs → drop i (counted view n xs) ≡ view (get_or xs i d) ∷ drop (i + 1) (counted view n xs)
  unfolding counted
  counted_next d i h l =
      drop-take_next (view d) n (map view xs) i h (rw (length-map xs view) l)
      ∙ ap (λ (b : B). b ∷ drop (i + 1) (take n (map view xs))) (get_or-map view xs i d)

  pub counted-gone : (i k : ℕ) → length xs ≡ k → (n ≤ i) ⊎ (k ≤ i) → drop i (counted view n xs) ≡ []
  unfolding counted
  counted-gone i k l (inl h) = let q : length (take n (map view xs)) ≤ i = simp (length-take, length-map) (omega arith) in drop_of_length-le _ q
  counted-gone i k l (inr h) = let q : length (take n (map view xs)) ≤ i = simp (length-take, length-map) (omega arith) in drop_of_length-le _ q

  -- the number of entries, of a table of k
  pub counted-length : (k : ℕ) → length xs ≡ k → length (counted view n xs) ≡ min n k
  unfolding counted
  counted-length k l = simp (length-take, length-map, l)

  pub counted-few : (k : ℕ) → length xs ≡ k → n < k → n ≡ length (counted view n xs)
  counted-few k l h = sym (counted-length k l ∙ omega arith)

  pub counted_full : (k : ℕ) → length xs ≡ k → k ≤ n → k ≡ length (counted view n xs)
  counted_full k l h = sym (counted-length k l ∙ omega arith)

  -- an entry by its number, and what lies past them
  pub counted-at : (d : A) (e : B) (i : ℕ) → i < n → i < length xs → view (get_or xs i d) ≡ get_or (counted view n xs) i e
  unfolding counted
  counted-at d e i h l = sym (get_or-take n (map view xs) i e h ∙ get_d_within (map view xs) i e (view d) (rw (length-map xs view) l) ∙ get_or-map view xs i d)

  pub counted_over : (e : B) (i k : ℕ) → length xs ≡ k → (n ≤ i) ⊎ (k ≤ i) → e ≡ get_or (counted view n xs) i e
  unfolding counted
  counted_over e i k l (inl h) = let q : length (take n (map view xs)) ≤ i = simp (length-take, length-map) (omega arith) in sym (get_or-eq_default (take n (map view xs)) e q)
  counted_over e i k l (inr h) = let q : length (take n (map view xs)) ≤ i = simp (length-take, length-map) (omega arith) in sym (get_or-eq_default (take n (map view xs)) e q)

  -- one more at the end
  pub push_room : (k : ℕ) (x : A) {y : B} → length xs ≡ k → n < k → y ≡ view x → counted view (n + 1) (set xs n x) ≡ pushed k (counted view n xs) y
  unfolding counted pushed
  push_room k x l h e =
      let m : n < length (map view xs) = rw (length-map xs view) (omega arith) in
      let u : length (take n (map view xs)) < k = simp (length-take, length-map) (omega arith) in
      let t : ltb (length (take n (map view xs))) k ≡ true = lt-ltb _ _ u in
      rw (add-one n, map-set view xs n x) (take-suc-set (map view xs) n (view x) m ∙ simp (t, e))

  pub push_full : (k : ℕ) (y : B) → length xs ≡ k → k ≤ n → counted view n xs ≡ pushed k (counted view n xs) y
  unfolding pushed
  push_full k y l h = simp (le-ltb (length (counted view n xs)) k (omega (arith, counted_full k l h)))

-- a table with no entry in use shows nothing
pub counted_empty : {A B : Type 0} (view : A → B) (n : ℕ) (xs : List A) (k : ℕ) → length xs ≡ k → 0 < k → eqb n 0 ≡ is_empty (counted view n xs)
unfolding counted
counted_empty view zero xs k l h = refl
counted_empty view (suc n) [] k l h = absurd (omega arith)
counted_empty view (suc n) (x ∷ xs) k l h = eqb-suc-zero n

-- ---- a loop that looks for the first entry that passes a test
pub record Seeking {A B C : Type 0} (view : A → B) (p : B → Bool) (g : B → C) (e : C) (n k : ℕ) (xs : List A) (whole : C) (i : ℕ) : Type 0 where
  pub long : length xs ≡ k
  pub at : i ≤ k
  pub rest : whole ≡ from p g e (drop i (counted view n xs))

pub seek_start : {A B C : Type 0} {view : A → B} {p : B → Bool} {g : B → C} {e : C} {n k : ℕ} {xs : List A} → length xs ≡ k → Seeking view p g e n k xs (from p g e (counted view n xs)) 0
seek_start l = record { long = l; at = omega arith; rest = refl }

module _ {A B C : Type 0} {view : A → B} {p : B → Bool} {g : B → C} {e : C} {n k : ℕ} {xs : List A} {whole : C} {i : ℕ} (inv : Seeking view p g e n k xs whole i) where
  -- t is what the test of the entry answered
  pub seek_hit : (d : A) {t : Bool} {r : C} → i < k → i < n → t ≡ p (view (get_or xs i d)) → t ≡ true → r ≡ g (view (get_or xs i d)) → r ≡ whole
  seek_hit d h m a b q =
      let l : i < length xs = omega (arith, inv.long) in
      sym (inv.rest ∙ simp (counted_next view n xs d i m l, ← a, b, q))

  pub seek_next : (d : A) {t : Bool} → i < k → i < n → t ≡ p (view (get_or xs i d)) → t ≡ false → Seeking view p g e n k xs whole (i + 1)
  seek_next d h m a b =
      let l : i < length xs = omega (arith, inv.long) in
      record { long = inv.long; at = omega arith; rest = inv.rest ∙ simp (counted_next view n xs d i m l, ← a, b) }

  pub seek_end : {r : C} → n ≤ i → r ≡ e → r ≡ whole
  seek_end h q = q ∙ sym (inv.rest ∙ simp (counted-gone view n xs i k inv.long (inl h)))

  pub seek_past : {r : C} → k ≤ i → r ≡ e → r ≡ whole
  seek_past h q = q ∙ sym (inv.rest ∙ simp (counted-gone view n xs i k inv.long (inr h)))

-- ---- a loop that looks for the index of the first entry that passes a test
pub record Finding {A B : Type 0} (view : A → B) (p : B → Bool) (none n k : ℕ) (xs : List A) (whole i : ℕ) : Type 0 where
  pub long : length xs ≡ k
  pub at : i ≤ k
  pub rest : whole ≡ first_at p none i (drop i (counted view n xs))

pub find_start : {A B : Type 0} {view : A → B} {p : B → Bool} {none n k : ℕ} {xs : List A} {whole : ℕ} → length xs ≡ k → whole ≡ first_at p none 0 (counted view n xs) → Finding view p none n k xs whole 0
find_start l e = record { long = l; at = omega arith; rest = e }

module _ {A B : Type 0} {view : A → B} {p : B → Bool} {none n k : ℕ} {xs : List A} {whole i : ℕ} (inv : Finding view p none n k xs whole i) where
  -- t is what the test of the entry answered
  pub find_hit : (d : A) {t : Bool} → i < k → i < n → t ≡ p (view (get_or xs i d)) → t ≡ true → i ≡ whole
  find_hit d h m a b = sym (inv.rest ∙ first_hit p none (counted_next view n xs d i m (omega (arith, inv.long))) (sym a ∙ b))

  pub find_next : (d : A) {t : Bool} → i < k → i < n → t ≡ p (view (get_or xs i d)) → t ≡ false → Finding view p none n k xs whole (i + 1)
  find_next d h m a b =
      let l : i < length xs = omega (arith, inv.long) in
      record { long = inv.long; at = omega arith; rest = inv.rest ∙ first_miss p none i (counted_next view n xs d i m l) (sym a ∙ b) }

  gone : (n ≤ i) ⊎ (k ≤ i) → none ≡ whole
  unfolding first_at
  gone h = sym (inv.rest ∙ simp (counted-gone view n xs i k inv.long h))

  pub find_end : n ≤ i → none ≡ whole
  find_end h = gone (inl h)

  pub find_past : k ≤ i → none ≡ whole
  find_past h = gone (inr h)

-- ---- a loop that keeps the entries that pass a test, in a new table that is seen as acc
pub record Keeping {A B : Type 0} (view : A → B) (p : B → Bool) (n k : ℕ) (xs : List A) (whole acc : List B) (i : ℕ) : Type 0 where
  pub long : length xs ≡ k
  pub at : i ≤ k
  pub few : length acc ≤ i
  pub rest : whole ≡ acc ++ keep p (drop i (counted view n xs))

pub keep_start : {A B : Type 0} {view : A → B} {p : B → Bool} {n k : ℕ} {xs : List A} {acc : List B} → length xs ≡ k → acc ≡ [] → Keeping view p n k xs (keep p (counted view n xs)) acc 0
keep_start l e = record { long = l; at = omega arith; few = rw e (omega arith); rest = simp e }

module _ {A B : Type 0} {view : A → B} {p : B → Bool} {n k : ℕ} {xs : List A} {whole acc : List B} {i : ℕ} (inv : Keeping view p n k xs whole acc i) where
  keep_yes : (d : A) {r : List B} → i < k → i < n → p (view (get_or xs i d)) ≡ true → r ≡ pushed k acc (view (get_or xs i d)) → Keeping view p n k xs whole r (i + 1)
  unfolding pushed
  keep_yes d {r} h m t e =
      let l : i < length xs = omega (arith, inv.long) in
      let u : length acc < k = omega (arith, inv.few) in
      let s : ltb (length acc) k ≡ true = lt-ltb _ _ u in
      let q : r ≡ acc ++ (view (get_or xs i d) ∷ []) = e ∙ simp s in
      record {
        long = inv.long;
        at = omega arith;
        few = rw q (simp length-append (omega (arith, inv.few)));
        rest = inv.rest ∙ simp (counted_next view n xs d i m l, t, q, append_assoc);
      }

  keep_no : (d : A) {r : List B} → i < k → i < n → p (view (get_or xs i d)) ≡ false → r ≡ acc → Keeping view p n k xs whole r (i + 1)
  keep_no d h m t e =
      let l : i < length xs = omega (arith, inv.long) in
      record { long = inv.long; at = omega arith; few = rw e (omega (arith, inv.few)); rest = inv.rest ∙ simp (counted_next view n xs d i m l, t, e) }

  pub keep_next : (d : A) {r : List B} → i < k → i < n → r ≡ cond (p (view (get_or xs i d))) (pushed k acc (view (get_or xs i d))) acc → Keeping view p n k xs whole r (i + 1)
  keep_next d {r} h m e = go (p (view (get_or xs i d))) refl
    where
      go : (b : Bool) → p (view (get_or xs i d)) ≡ b → Keeping view p n k xs whole r (i + 1)
      go true q = keep_yes d h m q (e ∙ simp q)
      go false q = keep_no d h m q (e ∙ simp q)

  pub keep_end : n ≤ i → acc ≡ whole
  keep_end h = sym (inv.rest ∙ simp (counted-gone view n xs i k inv.long (inl h), append-nil))

  pub keep_past : k ≤ i → acc ≡ whole
  keep_past h = sym (inv.rest ∙ simp (counted-gone view n xs i k inv.long (inr h), append-nil))

-- what is the same whatever a test tells
pub either : {A : Type 0} (t : Bool) (x : A) → x ≡ cond t x x
either true x = refl
either false x = refl

-- one entry of it: kept unless the test t meets it
module _ {A : Type 0} (p t : Bool) (a : t ≡ p) (x y : A) where
  pub unless_met : t ≡ true → y ≡ cond (not p) x y
  unless_met e = rw (← a, e)

  pub unless_kept : {r : A} → t ≡ false → r ≡ x → r ≡ cond (not p) x y
  unless_kept e q = q ∙ rw (← a, e)

-- ---- a loop that puts each entry, made anew by its place, into a new table that is seen as acc
pub record Mapping {A B C : Type 0} (view : A → B) (g : ℕ → B → C) (n k : ℕ) (xs : List A) (whole acc : List C) (i : ℕ) : Type 0 where
  pub long : length xs ≡ k
  pub at : i ≤ k
  pub few : length acc ≡ i
  pub rest : whole ≡ acc ++ map_from g i (drop i (counted view n xs))

pub map_start : {A B C : Type 0} {view : A → B} {g : ℕ → B → C} {n k : ℕ} {xs : List A} {whole acc : List C} → length xs ≡ k → acc ≡ [] → whole ≡ map_from g 0 (counted view n xs) → Mapping view g n k xs whole acc 0
map_start l e w = record { long = l; at = omega arith; few = rw e refl; rest = w ∙ rw e refl }

module _ {A B C : Type 0} {view : A → B} {g : ℕ → B → C} {n k : ℕ} {xs : List A} {whole acc : List C} {i : ℕ} (inv : Mapping view g n k xs whole acc i) where
  pub map_next : (d : A) {r : List C} → i < k → i < n → r ≡ pushed k acc (g i (view (get_or xs i d))) → Mapping view g n k xs whole r (i + 1)
  unfolding pushed map_from
  map_next d {r} h m e =
      let l : i < length xs = omega (arith, inv.long) in
      let u : length acc < k = omega (arith, inv.few) in
      let s : ltb (length acc) k ≡ true = lt-ltb _ _ u in
      let q : r ≡ acc ++ (g i (view (get_or xs i d)) ∷ []) = e ∙ simp s in
      record {
        long = inv.long;
        at = omega arith;
        few = rw q (simp length-append (omega (arith, inv.few)));
        rest = inv.rest ∙ simp (counted_next view n xs d i m l, q, append_assoc);
      }

  pub map_end : n ≤ i → acc ≡ whole
  unfolding map_from
  map_end h = sym (inv.rest ∙ simp (counted-gone view n xs i k inv.long (inl h), append-nil))

  pub map_past : k ≤ i → acc ≡ whole
  unfolding map_from
  map_past h = sym (inv.rest ∙ simp (counted-gone view n xs i k inv.long (inr h), append-nil))

pub map_is : {A B : Type 0} (g : A → B) (i : ℕ) (l : List A) → map g l ≡ map_from (λ j. g) i l
unfolding map_from
map_is g i [] = refl
map_is g i (x ∷ l) = ap (λ r. g x ∷ r) (map_is g (i + 1) l)

-- where what is made of each element is what it was
pub map_same : {A : Type 0} (g : ℕ → A → A) (i : ℕ) (l : List A) → ((j : ℕ) (x : A) → i ≤ j → j < i + length l → g j x ≡ x) → l ≡ map_from g i l
unfolding map_from
map_same g i [] h = refl
map_same g i (x ∷ l) h = ap₂ ◌∷◌ (sym (h i x (omega arith) (omega arith))) (map_same g (i + 1) l (λ j y a b. h j y (omega arith) (omega arith)))

-- ---- a loop that makes each entry of a table anew: g is what happens to an entry's view
pub record Remaking {A B : Type 0} (view : A → B) (g : B → B) (xs : List A) (k : ℕ) (vs : List A) (j : ℕ) : Type 0 where
  pub long : length xs ≡ k
  pub at : j ≤ k
  pub rest : map view vs ≡ filled (map g (map view xs)) (map view xs) j

pub remake_start : {A B : Type 0} {view : A → B} {g : B → B} {xs : List A} {k : ℕ} → length xs ≡ k → Remaking view g xs k xs 0
remake_start l = record { long = l; at = omega arith; rest = refl }

module _ {A B : Type 0} {view : A → B} {g : B → B} {xs : List A} {k : ℕ} {vs : List A} {j : ℕ} (inv : Remaking view g xs k vs j) where
  pub remake_next : (d : A) {r : A} → j < k → view r ≡ g (view (get_or xs j d)) → Remaking view g xs k (set vs j r) (j + 1)
  remake_next d {r} h e =
      let l : j < length (map view xs) = rw (length-map xs view) (omega (arith, inv.long)) in
      let m : j < length (map g (map view xs)) = rw (length-map (map view xs) g) l in
      let q : view r ≡ get_or (map g (map view xs)) j (g (view d)) = e ∙ sym (get_or-map g (map view xs) j (view d) ∙ ap g (get_or-map view xs j d)) in
      record {
        long = inv.long;
        at = omega arith;
        rest = map-set view vs j r ∙ rw (inv.rest, q) (fill_step (map g (map view xs)) (map view xs) j (g (view d)) m l);
      }

  pub remake_past : (n : ℕ) → k ≤ j → counted view n vs ≡ map g (counted view n xs)
  unfolding counted
  remake_past n h =
      let e : j ≡ k = omega (arith, inv.at) in
      ap (take n) (inv.rest ∙ rw e (fill_end (map g (map view xs)) (map view xs) k (length-map (map view xs) g ∙ length-map xs view ∙ inv.long) (length-map xs view ∙ inv.long)))
      ∙ take-map g n (map view xs)

-- ---- a loop that folds the entries; b is the view of what it has
pub record Working {A B C : Type 0} (view : A → B) (f : C → B → C) (n k : ℕ) (xs : List A) (whole b : C) (i : ℕ) : Type 0 where
  pub long : length xs ≡ k
  pub rest : whole ≡ fold f b (drop i (counted view n xs))

pub work_start : {A B C : Type 0} {view : A → B} {f : C → B → C} {n k : ℕ} {xs : List A} {whole b : C} {i : ℕ} → length xs ≡ k → whole ≡ fold f b (drop i (counted view n xs)) → Working view f n k xs whole b i
work_start l e = record { long = l; rest = e }

module _ {A B C : Type 0} {view : A → B} {f : C → B → C} {n k : ℕ} {xs : List A} {whole b : C} {i : ℕ} (inv : Working view f n k xs whole b i) where
  pub work_next : (d : A) {r : C} → i < k → i < n → r ≡ f b (view (get_or xs i d)) → Working view f n k xs whole r (i + 1)
  unfolding fold
  work_next d h m e =
      let l : i < length xs = omega (arith, inv.long) in
      record { long = inv.long; rest = inv.rest ∙ simp (counted_next view n xs d i m l, e) }

  pub work_end : n ≤ i → b ≡ whole
  unfolding fold
  work_end h = sym (inv.rest ∙ simp (counted-gone view n xs i k inv.long (inl h)))

  pub work_past : k ≤ i → b ≡ whole
  unfolding fold
  work_past h = sym (inv.rest ∙ simp (counted-gone view n xs i k inv.long (inr h)))

-- ---- folded so, the entries that pass a test are kept, but for no more than m
module _ {A : Type 0} (m : ℕ) (p : A → Bool) where
  abbrev pub keep_room : List A → A → List A
  keep_room acc x = cond (p x) (pushed m acc x) acc

  more_kept : (l acc : List A) → length acc ≤ m → fold keep_room acc l ≡ take m (acc ++ keep p l)
  unfolding fold pushed
  more_kept [] acc h = sym (rw append-nil (take_all m acc h))
  more_kept (x ∷ l) acc h =
      by_case (p x)
      (λ e. by_case (ltb (length acc) m)
      (λ t. let u = ltb-true (length acc) m t in
      rw (e, t) (more_kept l (acc ++ (x ∷ [])) (simp length-append (omega arith)) ∙ simp append_assoc))
      (λ t. let u : length acc ≡ m = omega (arith, ltb-false (length acc) m t) in
      rw (e, t) (more_kept l acc h ∙ take_at acc (keep p l) m u ∙ sym (take_at acc (x ∷ keep p l) m u))))
      (λ e. rw e (more_kept l acc h))

  pub first_kept : (l : List A) → take m (keep p l) ≡ fold keep_room [] l
  first_kept l = sym (more_kept l [] (omega arith))
