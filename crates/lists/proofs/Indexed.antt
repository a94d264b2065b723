-- A table that is looked up by index: `get_or (map view xs) i e`, with e for what lies past its end.
use Prim.Native.Nat.{ℕ, zero, suc, ◌+◌, ◌≤◌, ◌<◌}
use native.Mathlib.Omega.{arith}
use mathlib.Core.Path.{◌≡◌, refl, sym, ◌∙◌, ap, fun_ext}
use mathlib.Core.Bool.{Bool, true, false, not}
use mathlib.Core.List.{List, [], ◌∷◌, map}
use lib.ListN.{length, get_or, replicate, set, drop, length-map, get_or-map, get_or-eq_default, drop_of_length-le}
use lib.Seq.{get_or-set_same, get_or-set_other}
use lib.Dec.{eqb}
use borrow.Author.Tests.{eqb-true, eqb-false, not-true}
use Rattle.rules.specs.Lists.{any, all, override, span, upto}
use Rattle.rules.proofs.Laws.{by_case, both}
use Rattle.rules.proofs.Tests.{all_head, all_tail, any_none}
use Rattle.lists.proofs.Loops.{drop_next, get_d_within}
use Rattle.lists.proofs.Views.{map-set}

module _ {A B : Type 0} (view : A → B) (e : B) (xs : List A) where
  -- an entry of the table, whatever the code's own default is
  pub at_index : (i : ℕ) (d : A) → i < length xs → view (get_or xs i d) ≡ get_or (map view xs) i e
  at_index i d h = sym (get_or-map view xs i d) ∙ get_d_within (map view xs) i (view d) e (rw (length-map xs view) h)

  pub past_index : (i k : ℕ) → length xs ≡ k → k ≤ i → e ≡ get_or (map view xs) i e
  past_index i k l h = let q : length (map view xs) ≤ i = rw (length-map xs view) (omega arith) in sym (get_or-eq_default (map view xs) e q)

  -- one entry written
  pub set_index : (i : ℕ) (a : A) → i < length xs → (λ j. get_or (map view (set xs i a)) j e) ≡ override (λ j. get_or (map view xs) j e) i (view a)
  set_index i a h =
      fun_ext (λ j. ap (λ l. get_or l j e) (map-set view xs i a)
      ∙ by_case (eqb j i)
      (λ t. rw (t, eqb-true j i t) (get_or-set_same (map view xs) i (view a) e (rw (length-map xs view) h)))
      (λ t. rw t (get_or-set_other (map view xs) i j (view a) e (eqb-false j i t))))

-- a table of copies of one entry that is seen as e
pub copies_same : {A B : Type 0} (view : A → B) (e : B) (n : ℕ) (a : A) (i : ℕ) → view a ≡ e → get_or (map view (replicate n a)) i e ≡ e
copies_same view e zero a i h = refl
copies_same view e (suc n) a zero h = h
copies_same view e (suc n) a (suc i) h = copies_same view e n a i h

-- a test of every entry, or of none, at one of them, and after one is written
pub all_index : {A : Type 0} (p : A → Bool) (l : List A) (i : ℕ) (d : A) → i < length l → all p l ≡ true → p (get_or l i d) ≡ true
all_index p [] i d h a = absurd (omega arith)
all_index p (x ∷ l) zero d h a = all_head p x l a
all_index p (x ∷ l) (suc i) d h a = all_index p l i d (omega arith) (all_tail p x l a)

pub none_index : {A : Type 0} (p : A → Bool) (l : List A) (i : ℕ) (d : A) → i < length l → any p l ≡ false → p (get_or l i d) ≡ false
none_index p l i d h a = not-true (p (get_or l i d)) (all_index (λ x. not (p x)) l i d h (any_none p l a))

-- none has what none can have
pub any_false : {A : Type 0} (f : A → Bool) → ((a : A) → f a ≡ false) → (l : List A) → any f l ≡ false
any_false f h [] = refl
any_false f h (x ∷ l) = rw (h x) (any_false f h l)

pub all_set : {A : Type 0} (p : A → Bool) (l : List A) (i : ℕ) (a : A) → all p l ≡ true → p a ≡ true → all p (set l i a) ≡ true
all_set p [] i a e h = refl
all_set p (x ∷ l) zero a e h = both (p a) (all p l) h (all_tail p x l e)
all_set p (x ∷ l) (suc i) a e h = both (p x) (all p (set l i a)) (all_head p x l e) (all_set p l i a (all_tail p x l e) h)

-- some index passes a test just if some entry does
pub any_index : {A : Type 0} (p : A → Bool) (e : A) (l : List A) (k : ℕ) → length l ≡ k → any (λ i. p (get_or l i e)) (upto k) ≡ any p l
any_index p e l k h = go k 0 (omega arith)
  where
    go : (n j : ℕ) → j + n ≡ length l → any (λ i. p (get_or l i e)) (span j n) ≡ any p (drop j l)
    go zero j q = let z : length l ≤ j = omega arith in rw (drop_of_length-le l z)
    go (suc n) j q =
        rw (drop_next e l j (omega arith))
        (by_case (p (get_or l j e)) (λ t. rw t) (λ t. rw t (go n (j + 1) (omega arith))))
