-- Loops and iterators over a slice of entries that are seen through a view.
use native.Mathlib.Omega.{arith}
use mathlib.Core.Path.{◌≡◌, refl, sym, ◌∙◌, ap}
use mathlib.Core.Bool.{Bool, true, false, ◌&&◌}
use mathlib.Core.List.{List, [], ◌∷◌, ◌++◌, append_assoc, append-nil, map}
use Prim.Native.Nat.{ℕ, ◌+◌, ◌-◌, ◌≤◌, ◌<◌, min}
use lib.Dec.{eqb, ltb}
use lib.ListN.{length, get_or, set, take, drop, drop_of_length-le, length-append, length-take, length-drop}
use lib.Seq.{take_all}
use borrow.Author.Tests.{ltb-true, ltb-false}
use denote.Ref.{Bor}
use denote.Param.Members.{Mut}
use Rattle.std.proofs.Common.{rules, tests, Option, Some, None, MatchOption, option_map}
use Rattle.std.specs.Fn.{Called, CalledAt}
use Rattle.std.specs.Iterator.{ChecksAny, ChecksAll, FindsItem, FoldsItems}
use Rattle.std.specs.List.{list_any, list_all, find}
use Rattle.std.specs.Slice.Iter.{iter_rest}
use Rattle.std.specs.declared.slice.Iter.{Iter}
use Rattle.std.proofs.lemmas.Fn.{fronts, fold_over, slice_gives}
use Rattle.std.proofs.lemmas.List.{map-append, map-id, drop-map}
use Rattle.std.proofs.lemmas.Iterator.{YieldsList-from_slice}
use Rattle.std.proofs.lemmas.Iterator.Search.{any_from_yields_List, all_from_yields_List, find_from_yields_List}
use Rattle.rules.specs.Lists.{any, all, from, has, pushed}
use Rattle.rules.proofs.Laws.{by_case, and_true, pushed_room}
use Rattle.lists.specs.Find.{fold, map_from}
use Rattle.lists.specs.Table.{counted, table_form}
use Rattle.lists.proofs.Loops.{drop_next}
use Rattle.lists.proofs.Views.{take-map, push_room, push_full}
use Rattle.lists.proofs.Indexed.{all_index}
use Rattle.lists.proofs.Parts.{clip_drop}
use Rattle.lists.proofs.Forms.{form_push, form_parts}

-- the entries in use, seen one by one
pub counted_taken : {A B : Type 0} (view : A → B) (n : ℕ) (xs : List A) → counted view n xs ≡ map view (take n xs)
unfolding counted
counted_taken view n xs = take-map view n xs

-- ── one more entry, as `lists::push` puts it ──
module _ {A : Type 0} (k : ℕ) {n m : ℕ} {xs ys : List A} (x : A) (long : length xs ≡ k) (item : n < length xs → ys ≡ set xs n x) (more : n < length xs → m ≡ n + 1) (full : length xs ≤ n → ys ≡ xs) (none : length xs ≤ n → m ≡ n) where
  pub push_shows : {B : Type 0} (view : A → B) → counted view m ys ≡ pushed k (counted view n xs) (view x)
  push_shows view =
      by_case (ltb n k)
      (λ t. let h = ltb-true n k t in let i : n < length xs = omega arith in rw (item i, more i) (push_room view n xs k x long h refl))
      (λ t. let h = ltb-false n k t in let i : length xs ≤ n = omega arith in rw (full i, none i) (push_full view n xs k (view x) long h))

  pub push_form : (used unused : A → Bool) → used x ≡ true → table_form k used unused n xs ≡ true → table_form k used unused m ys ≡ true
  push_form used unused u f =
      by_case (ltb n k)
      (λ t. let h = ltb-true n k t in let i : n < length xs = omega arith in rw (item i, more i) (form_push k used unused n xs x h u f))
      (λ t. let h = ltb-false n k t in let i : length xs ≤ n = omega arith in rw (full i, none i) f)

-- ── a test p of the entries that reads no more than what is seen of one ──
module _ {A B : Type 0} (view : A → B) (p : A → Bool) (q : B → Bool) (same : (x : A) → p x ≡ q (view x)) where
  any_seen : (xs : List A) → list_any p xs ≡ any q (map view xs)
  any_seen [] = refl
  any_seen (x ∷ xs) = rw (same x, any_seen xs) (by_case (q (view x)) (λ t. rw t) (λ t. rw t))

  pub any_used : (n : ℕ) (xs : List A) → list_any p (take n xs) ≡ any q (counted view n xs)
  any_used n xs = rw (counted_taken view n xs) (any_seen (take n xs))

-- ── the first entry that passes a test p, as `find` answers it ──
module _ {A B C : Type 0} (view : A → B) (p : A → Bool) (q : B → Bool) (same : (x : A) → p x ≡ q (view x)) (g : B → C) (e : C) where
  found : (xs : List A) {x : A} → Some x ≡ find p xs → g (view x) ≡ from q g e (map view xs)
  found [] h = cc
  found (y ∷ xs) {x} h =
      by_case (p y)
      (λ t. let i : Some x ≡ Some y = rw t at h in let j : x ≡ y = cc in rw (← same y, t) (ap (λ (z : A). g (view z)) j))
      (λ t. rw (← same y, t) (found xs (rw t at h)))

  none_found : (xs : List A) → None ≡ find p xs → e ≡ from q g e (map view xs)
  none_found [] h = refl
  none_found (y ∷ xs) h = by_case (p y) (λ t. let i : None ≡ Some y = rw t at h in cc) (λ t. rw (← same y, t) (none_found xs (rw t at h)))

-- it is one of them
find_all : {A : Type 0} (p r : A → Bool) (xs : List A) {x : A} → Some x ≡ find p xs → all r xs ≡ true → r x ≡ true
find_all p r [] h a = cc
find_all p r (y ∷ xs) {x} h a =
    by_case (p y)
    (λ t. let i : Some x ≡ Some y = rw t at h in let j : x ≡ y = cc in rw j (and_true (r y) (all r xs) a).0)
    (λ t. find_all p r xs (rw t at h) (and_true (r y) (all r xs) a).1)

-- an entry of the slice in use
pub used_form : {A : Type 0} (k : ℕ) (used unused : A → Bool) (n : ℕ) (xs : List A) {ys : List A} (i : ℕ) (d : A) → ys ≡ take n xs → i < length ys → table_form k used unused n xs ≡ true → used (get_or ys i d) ≡ true
used_form k used unused n xs {ys} i d u h f = all_index used ys i d h (rw u (form_parts k used unused n xs f).in_use)

-- ── a loop that folds what is seen of a slice; b is the view of what it has ──
pub record Folding {A B C : Type 0} (view : A → B) (f : C → B → C) (ys : List A) (whole b : C) (i : ℕ) : Type 0 where
  pub rest : whole ≡ fold f b (map view (drop i ys))

pub fold_start : {A B C : Type 0} {view : A → B} {f : C → B → C} {ys : List A} {whole b : C} → whole ≡ fold f b (map view ys) → Folding view f ys whole b 0
fold_start e = record { rest = e }

-- over the entries in use
pub fold_used : {A B C : Type 0} {view : A → B} {f : C → B → C} (n : ℕ) (xs : List A) {ys : List A} {whole b : C} → ys ≡ take n xs → whole ≡ fold f b (counted view n xs) → Folding view f ys whole b 0
fold_used {view = view} {f} n xs {b = b} u e = rw u (fold_start (e ∙ ap (fold f b) (counted_taken view n xs)))

-- over those of them from one on
pub fold_rest : {A B C : Type 0} {view : A → B} {f : C → B → C} (n : ℕ) (xs : List A) (k : ℕ) {at : ℕ} {ys : List A} {whole b : C} → ys ≡ take n xs → at ≡ min k (length ys) → whole ≡ fold f b (drop k (counted view n xs)) → Folding view f (take (length ys - at) (drop at ys)) whole b 0
fold_rest {view = view} {f} n xs k {at} {ys} {b = b} u m e =
    let all : length (drop at ys) ≤ length ys - at = rw length-drop (omega arith) in
    let same : take (length ys - at) (drop at ys) ≡ drop k ys = take_all _ _ all ∙ ap (λ (i : ℕ). drop i ys) m ∙ clip_drop k ys in
    rw same (fold_start (e ∙ ap (fold f b) (rw (counted_taken view n xs, ← u) (drop-map view k ys))))

module _ {A B C : Type 0} {view : A → B} {f : C → B → C} {ys : List A} {whole b : C} {i : ℕ} (inv : Folding view f ys whole b i) where
  pub fold_next : (d : A) {r : C} → i < length ys → r ≡ f b (view (get_or ys i d)) → Folding view f ys whole r (i + 1)
  unfolding fold
  fold_next d h e = record { rest = inv.rest ∙ simp (drop_next d ys i h, e) }

  pub fold_end : length ys ≤ i → b ≡ whole
  unfolding fold
  fold_end h = sym (inv.rest ∙ simp (drop_of_length-le ys h))

-- ── a loop that looks for the first entry of a slice that passes a test ──
pub record Looking {A B C : Type 0} (view : A → B) (p : B → Bool) (g : B → C) (e : C) (ys : List A) (whole : C) (i : ℕ) : Type 0 where
  pub rest : whole ≡ from p g e (map view (drop i ys))

-- over the entries in use
pub look_used : {A B C : Type 0} {view : A → B} {p : B → Bool} {g : B → C} {e : C} (n : ℕ) (xs : List A) {ys : List A} → ys ≡ take n xs → Looking view p g e ys (from p g e (counted view n xs)) 0
look_used {view = view} {p} {g} {e} n xs u = rw u (record { rest = ap (from p g e) (counted_taken view n xs) })

module _ {A B C : Type 0} {view : A → B} {p : B → Bool} {g : B → C} {e : C} {ys : List A} {whole : C} {i : ℕ} (inv : Looking view p g e ys whole i) where
  -- t is what the test of the entry answered
  pub look_hit : (d : A) {t : Bool} {r : C} → i < length ys → t ≡ p (view (get_or ys i d)) → t ≡ true → r ≡ g (view (get_or ys i d)) → r ≡ whole
  look_hit d h a b q = sym (inv.rest ∙ simp (drop_next d ys i h, ← a, b, q))

  pub look_next : (d : A) {t : Bool} → i < length ys → t ≡ p (view (get_or ys i d)) → t ≡ false → Looking view p g e ys whole (i + 1)
  look_next d h a b = record { rest = inv.rest ∙ simp (drop_next d ys i h, ← a, b) }

  pub look_end : {r : C} → length ys ≤ i → r ≡ e → r ≡ whole
  look_end h q = q ∙ sym (inv.rest ∙ simp (drop_of_length-le ys h))

-- ── a loop that puts each entry of a slice, made anew by its place, into a new table of k entries, seen as acc ──
pub record Placing {A B C : Type 0} (view : A → B) (g : ℕ → B → C) (k : ℕ) (ys : List A) (whole acc : List C) (i : ℕ) : Type 0 where
  pub room : length ys ≤ k
  pub few : length acc ≡ i
  pub rest : whole ≡ acc ++ map_from g i (map view (drop i ys))

-- over the entries in use
pub place_used : {A B C : Type 0} {view : A → B} {g : ℕ → B → C} {k : ℕ} (n : ℕ) (xs : List A) {ys : List A} {acc : List C} → length xs ≡ k → ys ≡ take n xs → acc ≡ [] → Placing view g k ys (map_from g 0 (counted view n xs)) acc 0
place_used {view = view} {g} n xs l u e =
    record {
      room = rw (u, length-take n xs) (omega arith);
      few = rw e refl;
      rest = rw (e, u) (ap (map_from g 0) (counted_taken view n xs));
    }

module _ {A B C : Type 0} {view : A → B} {g : ℕ → B → C} {k : ℕ} {ys : List A} {whole acc : List C} {i : ℕ} (inv : Placing view g k ys whole acc i) where
  pub place_next : (d : A) {r : List C} → i < length ys → r ≡ pushed k acc (g i (view (get_or ys i d))) → Placing view g k ys whole r (i + 1)
  unfolding map_from
  place_next d {r} h e =
      let x = g i (view (get_or ys i d)) in
      let q : r ≡ acc ++ (x ∷ []) = e ∙ pushed_room k acc x (omega (arith, inv.room, inv.few)) in
      record {
        room = inv.room;
        few = rw q (simp length-append (omega (arith, inv.few)));
        rest = inv.rest ∙ simp (drop_next d ys i h, q, append_assoc);
      }

  pub place_end : length ys ≤ i → acc ≡ whole
  unfolding map_from
  place_end h = sym (inv.rest ∙ simp (drop_of_length-le ys h, append-nil))

-- ── what a method answers of an iterator that still has what shows as l; its last argument `λ x b f k. search (rules, tests)` is what one call of its closure answers ──
pub record Shown {A B : Type 0} (view : A → B) (s : Iter A) (l : List B) : Type 0 where
  pub is : map view (iter_rest s) ≡ l

module _ {A B : Type 0} {view : A → B} {s : Iter A} where
  pub shown : {ys : List A} {l : List B} → iter_rest s ≡ ys → map view ys ≡ l → Shown view s l
  shown e m = record { is = ap (map view) e ∙ m }

  -- over the entries in use
  pub shown_used : (n : ℕ) (xs : List A) {ys : List A} → iter_rest s ≡ ys → ys ≡ take n xs → Shown view s (counted view n xs)
  shown_used n xs e m = shown e (ap (map view) m ∙ sym (counted_taken view n xs))

first : {A B F : Type 0} (view : A → B) (p : B → Bool) {s : Iter A} {g : Mut F (Bor (Bor A) × Unit {0}) Bool} {f : F} (u : Iter A) (r : Option (Bor A)) {o : Option (Bor A)} → FindsItem fronts g s f r u → r ≡ o
    → ((x : Bor A) (b : Bool) (j : F) → CalledAt g f x b j → (j ≡ f) × (b ≡ p (view x.now))) → option_map (λ x. x.now) o ≡ find (λ x. p (view x)) (iter_rest s)
first view p {s} {f = f} u r t e k = ap (option_map (λ x. x.now)) (sym e) ∙ find_from_yields_List (λ x. p (view x)) u f r t (YieldsList-from_slice (iter_rest s) refl) k

-- what `find` gave of the entries in use is in their form
pub find_form : {A F : Type 0} (p : A → Bool) {s : Iter A} {g : Mut F (Bor (Bor A) × Unit {0}) Bool} {f : F} (u : Iter A) (k : ℕ) (used unused : A → Bool) (n : ℕ) (xs : List A) {ys : List A} {r : Option (Bor A)} (y : Bor A) → FindsItem fronts g s f r u → r ≡ Some y
    → iter_rest s ≡ ys → ys ≡ take n xs → ((x : Bor A) (b : Bool) (j : F) → CalledAt g f x b j → (j ≡ f) × (b ≡ p x.now)) → table_form k used unused n xs ≡ true → used y.now ≡ true
find_form p u k used unused n xs {r = r} y t e i m w a = find_all p used (take n xs) (rw (i ∙ m) at (first (λ x. x) p u r t e w)) (form_parts k used unused n xs a).in_use

-- `contains` gave r; E is how it compares an entry with what it looks for
pub shown_contains : {A B : Type 0} (view : A → B) (E : A → Bool) (p : B → Bool) (ys : List A) {l : List B} {r : Bool} → r ≡ list_any E ys → map view ys ≡ l → ((x : A) → E x ≡ p (view x)) → r ≡ any p l
shown_contains view E p ys t m k = t ∙ any_seen view E p k ys ∙ ap (any p) m

-- the same of a number
pub shown_has : (n : ℕ) (l ys : List ℕ) {r : Bool} → r ≡ list_any (λ m. eqb m n) ys → ys ≡ l → r ≡ has n l
shown_has n l ys t m = shown_contains (λ x. x) (λ x. eqb x n) (λ x. eqb n x) ys t (map-id ys ∙ m) (λ x. search (rules, tests))

module _ {A B : Type 0} {view : A → B} {s : Iter A} {l : List B} {F : Type 0} {f : F} where
  module _ {g : Mut F (Bor A × Unit {0}) Bool} {u : Iter A} (p : B → Bool) {r : Bool} where
    pub shown_any : ChecksAny fronts g s f r u → Shown view s l → ((x : Bor A) (b : Bool) (j : F) → Called g f (x, tt) b j → (j ≡ f) × (b ≡ p (view x.now))) → r ≡ any p l
    shown_any t m k = any_from_yields_List (λ x. p (view x)) u f r t (YieldsList-from_slice (iter_rest s) refl) k ∙ any_seen view (λ x. p (view x)) p (λ x. refl) (iter_rest s) ∙ ap (any p) m.is

    pub shown_all : ChecksAll fronts g s f r u → Shown view s l → ((x : Bor A) (b : Bool) (j : F) → Called g f (x, tt) b j → (j ≡ f) × (b ≡ p (view x.now))) → r ≡ all p l
    shown_all t m k = all_from_yields_List (λ x. p (view x)) u f r t (YieldsList-from_slice (iter_rest s) refl) k ∙ each (iter_rest s) ∙ ap (all p) m.is
      where
        each : (ys : List A) → list_all (λ x. p (view x)) ys ≡ all p (map view ys)
        each [] = refl
        each (y ∷ ys) = ap (λ b. p (view y) && b) (each ys)

  module _ {g : Mut F (Bor (Bor A) × Unit {0}) Bool} (u : Iter A) {C : Type 0} (p : B → Bool) (h : B → C) (d : C) where
    -- `find` gave y, and what the first that passes gives is z; it gave none
    pub shown_some : {r : Option (Bor A)} (y : Bor A) {z : C} → FindsItem fronts g s f r u → r ≡ Some y → Shown view s l → z ≡ h (view y.now)
        → ((x : Bor A) (b : Bool) (j : F) → CalledAt g f x b j → (j ≡ f) × (b ≡ p (view x.now))) → z ≡ from p h d l
    shown_some {r} y t e m q k = q ∙ found view (λ x. p (view x)) p (λ x. refl) h d (iter_rest s) (first view p u r t e k) ∙ ap (from p h d) m.is

    pub shown_none : {r : Option (Bor A)} {z : C} → FindsItem fronts g s f r u → r ≡ None → Shown view s l → z ≡ d
        → ((x : Bor A) (b : Bool) (j : F) → CalledAt g f x b j → (j ≡ f) × (b ≡ p (view x.now))) → z ≡ from p h d l
    shown_none {r} t e m q k = q ∙ none_found view (λ x. p (view x)) p (λ x. refl) h d (iter_rest s) (first view p u r t e k) ∙ ap (from p h d) m.is

    -- `find(..).map_or(d, ..)` gave z; P is what the closure's call says of the element that was found
    pub shown_map_or : (r : Option (Bor A)) (P : Bor A → Type 0) {z : C} → FindsItem fronts g s f r u → Shown view s l → MatchOption r (z ≡ d) P → ((y : Bor A) → P y → z ≡ h (view y.now))
        → ((x : Bor A) (b : Bool) (j : F) → CalledAt g f x b j → (j ≡ f) × (b ≡ p (view x.now))) → z ≡ from p h d l
    shown_map_or r P {z} t m o q k = cases r refl o
      where
        cases : (w : Option (Bor A)) → r ≡ w → MatchOption w (z ≡ d) P → z ≡ from p h d l
        cases None e i = shown_none t e m i k
        cases (Some y) e i = shown_some y t e m (q y i) k

  -- `fold` gave r; the rules see a value of the fold by `seen`
  module _ {C D : Type 0} {g : Mut F (C × (Bor A × Unit {0})) C} (seen : C → D) (h : D → B → D) {b r : C} where
    pub shown_fold : FoldsItems fronts g s f b r → Shown view s l → ((c : C) (x : Bor A) (a : C) (j : F) → Called g f (c, (x, tt)) a j → (j ≡ f) × (seen a ≡ h (seen c) (view x.now))) → seen r ≡ fold h (seen b) l
    unfolding fold
    shown_fold t m k =
        fold_over fronts (λ x. x.now) g (λ ys c. seen c ≡ fold h (seen b) (map view ys)) f step s (iter_rest s) b r (slice_gives s) refl t ∙ ap (fold h (seen b)) m.is
      where
        snoc : (c : D) (ys : List B) (y : B) → h (fold h c ys) y ≡ fold h c (ys ++ (y ∷ []))
        snoc c [] y = refl
        snoc c (x ∷ ys) y = snoc (h c x) ys y

        step : (ys : List A) (c : C) (x : Bor A) (a : C) (j : F) → seen c ≡ fold h (seen b) (map view ys) → Called g f (c, (x, tt)) a j → (seen a ≡ fold h (seen b) (map view (ys ++ (x.now ∷ [])))) × (j ≡ f)
        step ys c x a j e w =
            let q = k c x a j w in
            (q.1 ∙ ap (λ z. h z (view x.now)) e ∙ snoc (seen b) (map view ys) (view x.now) ∙ ap (fold h (seen b)) (sym (map-append view ys (x.now ∷ []))), q.0)
