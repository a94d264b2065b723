-- Laws of the tests on lists: all, pairwise, any, once.
use Prim.Native.Nat.{◌+◌, ◌<◌, ◌≤◌, suc, zero, ℕ}
use native.Mathlib.Omega.{arith}
use mathlib.Core.Path.{◌∙◌, ◌≡◌, ap, ap₂, refl, sym}
use mathlib.Core.Bool.{Bool, ◌&&◌, false, not, true, true≢false}
use mathlib.Core.List.{List, [], ◌++◌, ◌∷◌, map}
use lib.ListN.{length, take, drop}
use lib.Dec.{eqb, leb, ltb}
use borrow.Author.Tests.{eqb-false, eqb-true, le-leb, lt-ltb, not-true}
use Rattle.rules.specs.Lists.{keep, any, all, pairwise, same_list, has, span, upto, is_once}
use Rattle.rules.proofs.Laws.{by_case, eqb-sym, and_true, both}

-- no number twice
abbrev pub Once : List ℕ → Type 0
Once [] = Unit {0}
Once (n ∷ l) = (has n l ≡ false) × Once l

pub once_is : (l : List ℕ) → is_once l ≡ true → Once l
once_is [] e = tt
once_is (n ∷ l) e = let h = and_true (not (has n l)) (is_once l) e in (not-true (has n l) h.0, once_is l h.1)

pub once_test : (l : List ℕ) → Once l → is_once l ≡ true
once_test [] o = refl
once_test (n ∷ l) o = both (not (has n l)) (is_once l) (ap not o.0) (once_test l o.1)

module _ {A : Type 0} where
  pub all_head : (f : A → Bool) (a : A) (l : List A) → all f (a ∷ l) ≡ true → f a ≡ true
  all_head f a l e = (and_true (f a) (all f l) e).0

  pub all_tail : (f : A → Bool) (a : A) (l : List A) → all f (a ∷ l) ≡ true → all f l ≡ true
  all_tail f a l e = (and_true (f a) (all f l) e).1

  pub all_imp : (f g : A → Bool) → ((a : A) → f a ≡ true → g a ≡ true) → (l : List A) → all f l ≡ true → all g l ≡ true
  all_imp f g h [] e = refl
  all_imp f g h (a ∷ l) e = both (g a) (all g l) (h a (all_head f a l e)) (all_imp f g h l (all_tail f a l e))

  pub all_true : (f : A → Bool) → ((a : A) → f a ≡ true) → (l : List A) → all f l ≡ true
  all_true f h [] = refl
  all_true f h (a ∷ l) = both (f a) (all f l) (h a) (all_true f h l)

  pub all_and : (f g : A → Bool) (l : List A) → all f l ≡ true → all g l ≡ true → all (λ a. f a && g a) l ≡ true
  all_and f g [] e d = refl
  all_and f g (a ∷ l) e d =
      both (f a && g a) (all (λ x. f x && g x) l) (both (f a) (g a) (all_head f a l e) (all_head g a l d))
      (all_and f g l (all_tail f a l e) (all_tail g a l d))

  pub all_snoc : (f : A → Bool) (l : List A) (x : A) → all f l ≡ true → f x ≡ true → all f (l ++ (x ∷ [])) ≡ true
  all_snoc f [] x e h = both (f x) true h refl
  all_snoc f (a ∷ l) x e h = both (f a) (all f (l ++ (x ∷ []))) (all_head f a l e) (all_snoc f l x (all_tail f a l e) h)

  pub all_keep : (f g : A → Bool) (l : List A) → all f l ≡ true → all f (keep g l) ≡ true
  all_keep f g [] e = refl
  all_keep f g (a ∷ l) e =
      by_case (g a) (λ t. rw t (both (f a) (all f (keep g l)) (all_head f a l e) (all_keep f g l (all_tail f a l e))))
      (λ t. rw t (all_keep f g l (all_tail f a l e)))

  pub all_take : (f : A → Bool) (n : ℕ) (l : List A) → all f l ≡ true → all f (take n l) ≡ true
  all_take f zero l e = refl
  all_take f (suc n) [] e = refl
  all_take f (suc n) (a ∷ l) e = both (f a) (all f (take n l)) (all_head f a l e) (all_take f n l (all_tail f a l e))

  pub all_drop : (f : A → Bool) (n : ℕ) (l : List A) → all f l ≡ true → all f (drop n l) ≡ true
  all_drop f zero l e = e
  all_drop f (suc n) [] e = refl
  all_drop f (suc n) (a ∷ l) e = all_drop f n l (all_tail f a l e)

  pub length-keep : (f : A → Bool) (l : List A) → length (keep f l) ≤ length l
  length-keep f [] = omega arith
  length-keep f (a ∷ l) = by_case (f a) (λ t. rw t (omega (arith, length-keep f l))) (λ t. rw t (omega (arith, length-keep f l)))

  pub keep_all : (f : A → Bool) (l : List A) → ((a : A) → f a ≡ true) → l ≡ keep f l
  keep_all f [] h = refl
  keep_all f (a ∷ l) h = rw (h a) (ap (λ m. a ∷ m) (keep_all f l h))

  pub any_none : (f : A → Bool) (l : List A) → any f l ≡ false → all (λ a. not (f a)) l ≡ true
  any_none f [] e = refl
  any_none f (a ∷ l) e =
      by_case (f a) (λ t. absurd (true≢false (rw t at e))) (λ t. both (not (f a)) (all (λ x. not (f x)) l) (rw t) (any_none f l (rw t at e)))

  pub pairwise-keep : (r : A → A → Bool) (g : A → Bool) (l : List A) → pairwise r l ≡ true → pairwise r (keep g l) ≡ true
  pairwise-keep r g [] e = refl
  pairwise-keep r g (a ∷ l) e =
      by_case (g a)
      (λ t. rw t (both (all (r a) (keep g l)) (pairwise r (keep g l)) (all_keep (r a) g l (and_true (all (r a) l) (pairwise r l) e).0)
      (pairwise-keep r g l (and_true (all (r a) l) (pairwise r l) e).1)))
      (λ t. rw t (pairwise-keep r g l (and_true (all (r a) l) (pairwise r l) e).1))

  pub pairwise_snoc : (r : A → A → Bool) (l : List A) (x : A) → pairwise r l ≡ true → all (λ a. r a x) l ≡ true → pairwise r (l ++ (x ∷ [])) ≡ true
  pairwise_snoc r [] x e h = refl
  pairwise_snoc r (a ∷ l) x e h =
      both (all (r a) (l ++ (x ∷ []))) (pairwise r (l ++ (x ∷ [])))
      (all_snoc (r a) l x (and_true (all (r a) l) (pairwise r l) e).0 (all_head (λ b. r b x) a l h))
      (pairwise_snoc r l x (and_true (all (r a) l) (pairwise r l) e).1 (all_tail (λ b. r b x) a l h))

  pub same_list_is : (r : A → A → Bool) → ((a b : A) → r a b ≡ true → a ≡ b) → (l m : List A) → same_list r l m ≡ true → l ≡ m
  same_list_is r h [] [] e = refl
  same_list_is r h [] (b ∷ m) e = absurd (true≢false (sym e))
  same_list_is r h (a ∷ l) [] e = absurd (true≢false (sym e))
  same_list_is r h (a ∷ l) (b ∷ m) e = let p = and_true (r a b) (same_list r l m) e in ap₂ ◌∷◌ (h a b p.0) (same_list_is r h l m p.1)

  pub same_list_refl : (r : A → A → Bool) → ((a : A) → r a a ≡ true) → (l : List A) → same_list r l l ≡ true
  same_list_refl r h [] = refl
  same_list_refl r h (a ∷ l) = both (r a a) (same_list r l l) (h a) (same_list_refl r h l)

  -- numbers of elements, once each
  pub has-map-keep : (k : ℕ) (g : A → ℕ) (f : A → Bool) (l : List A) → has k (map g l) ≡ false → has k (map g (keep f l)) ≡ false
  has-map-keep k g f [] e = refl
  has-map-keep k g f (a ∷ l) e =
      by_case (eqb k (g a)) (λ t. absurd (true≢false (rw t at e)))
      (λ t. by_case (f a) (λ u. rw (u, t) (has-map-keep k g f l (rw t at e))) (λ u. rw u (has-map-keep k g f l (rw t at e))))

  pub once_map-keep : (g : A → ℕ) (f : A → Bool) (l : List A) → Once (map g l) → Once (map g (keep f l))
  once_map-keep g f [] o = tt
  once_map-keep g f (a ∷ l) o =
      by_case (f a) (λ t. rw t (has-map-keep (g a) g f l o.0, once_map-keep g f l o.1)) (λ t. rw t (once_map-keep g f l o.1))

  pub once_map_snoc : (g : A → ℕ) (x : A) (l : List A) → has (g x) (map g l) ≡ false → Once (map g l) → Once (map g (l ++ (x ∷ [])))
  once_map_snoc g x [] e o = (refl, tt)
  once_map_snoc g x (a ∷ l) e o =
      by_case (eqb (g x) (g a)) (λ t. absurd (true≢false (rw t at e)))
      (λ t. (absent_last l o.0 (eqb-sym (g x) (g a) t), once_map_snoc g x l (rw t at e) o.1))
    where
      absent_last : (m : List A) → has (g a) (map g m) ≡ false → eqb (g a) (g x) ≡ false → has (g a) (map g (m ++ (x ∷ []))) ≡ false
      absent_last [] u v = rw v
      absent_last (b ∷ m) u v = by_case (eqb (g a) (g b)) (λ t. absurd (true≢false (rw t at u))) (λ t. rw t (absent_last m (rw t at u) v))

-- ── 0 to n - 1 ──
pub all_append : {A : Type 0} (f : A → Bool) (a b : List A) → all f (a ++ b) ≡ true → (all f a ≡ true) × (all f b ≡ true)
all_append f [] b e = (refl, e)
all_append f (x ∷ a) b e =
    let r = all_append f a b (all_tail f x (a ++ b) e) in
    (both (f x) (all f a) (all_head f x (a ++ b) e) r.0, r.1)

later : (a b : ℕ) → a ≤ b → (b ≡ a → ⊥) → a + 1 ≤ b
later a b u v = omega arith

pub all_join : {A : Type 0} (f : A → Bool) (a b : List A) → all f a ≡ true → all f b ≡ true → all f (a ++ b) ≡ true
all_join f [] b e d = d
all_join f (x ∷ a) b e d = both (f x) (all f (a ++ b)) (all_head f x a e) (all_join f a b (all_tail f x a e) d)

all-span : (f : ℕ → Bool) (n j k : ℕ) → all f (span j n) ≡ true → j ≤ k → k < j + n → f k ≡ true
all-span f zero j k e l h = absurd (omega arith)
all-span f (suc n) j k e l h =
    by_case (eqb k j)
    (λ t. rw (eqb-true k j t) (all_head f j (span (j + 1) n) e))
    (λ t. all-span f n (j + 1) k (all_tail f j (span (j + 1) n) e) (later j k l (eqb-false k j t)) (omega arith))

span-all : (f : ℕ → Bool) (n j : ℕ) → ((k : ℕ) → j ≤ k → k < j + n → f k ≡ true) → all f (span j n) ≡ true
span-all f zero j h = refl
span-all f (suc n) j h =
    both (f j) (all f (span (j + 1) n)) (h j (omega arith) (omega arith)) (span-all f n (j + 1) (λ k l m. h k (omega arith) (omega arith)))

pub all-upto : (f : ℕ → Bool) (n k : ℕ) → all f (upto n) ≡ true → k < n → f k ≡ true
all-upto f n k e h = all-span f n 0 k e (omega arith) (omega arith)

pub upto_all : (f : ℕ → Bool) (n : ℕ) → ((k : ℕ) → k < n → f k ≡ true) → all f (upto n) ≡ true
upto_all f n h = span-all f n 0 (λ k l m. h k (omega arith))

any-span : (f : ℕ → Bool) (n j k : ℕ) → j ≤ k → k < j + n → f k ≡ true → any f (span j n) ≡ true
any-span f zero j k l h e = absurd (omega arith)
any-span f (suc n) j k l h e =
    by_case (f j) (λ t. rw t)
    (λ t. rw t (any-span f n (j + 1) k (later j k l (λ q. true≢false (sym e ∙ ap f q ∙ t))) (omega arith) e))

pub any-upto : (f : ℕ → Bool) (n k : ℕ) → k < n → f k ≡ true → any f (upto n) ≡ true
any-upto f n k h e = any-span f n 0 k (omega arith) (omega arith) e

-- ── bounds as tests ──
pub leb_le : {a b : ℕ} → a ≤ b → leb a b ≡ true
leb_le {a} {b} h = le-leb a b h

pub ltb_lt : {a b : ℕ} → a < b → ltb a b ≡ true
ltb_lt {a} {b} h = lt-ltb a b h
