-- A list of numbers that stands in the order of another: what is left of it, and one more at the end.
use Prim.Native.Nat.{ℕ}
use mathlib.Core.Path.{◌∙◌, ◌≡◌, ap, refl, subst, sym}
use mathlib.Core.Bool.{Bool, ◌&&◌, cond, false, not, true, true≢false}
use mathlib.Core.List.{List, [], ◌++◌, ◌∷◌, map}
use lib.Dec.{eqb}
use borrow.Author.Tests.{eqb-true}
use Rattle.rules.specs.Lists.{keep, has, without, InOrder}
use Rattle.rules.proofs.Laws.{by_case, self, eqb-sym, or_zero_lem}
use Rattle.rules.proofs.Tests.{Once, keep_all, has-map-keep}
use Rattle.rules.proofs.Buffer.{has_append, has-keep-false, has_last, and_false}

-- ── what is kept ──
pub keep_append : {A : Type 0} (f : A → Bool) (a b : List A) → keep f (a ++ b) ≡ keep f a ++ keep f b
keep_append f [] b = refl
keep_append f (x ∷ a) b = by_case (f x) (λ e. rw e (ap (λ z. x ∷ z) (keep_append f a b))) (λ e. rw e (keep_append f a b))

pub keep-keep : (f g : ℕ → Bool) (l : List ℕ) → keep f (keep g l) ≡ keep (λ n. g n && f n) l
keep-keep f g [] = refl
keep-keep f g (x ∷ l) =
    by_case (g x)
    (λ e. rw e (by_case (f x) (λ t. rw t (ap (λ z. x ∷ z) (keep-keep f g l))) (λ t. rw t (keep-keep f g l))))
    (λ e. rw e (keep-keep f g l))

pub keep_same : (f g : ℕ → Bool) (l : List ℕ) → ((n : ℕ) → has n l ≡ true → f n ≡ g n) → keep f l ≡ keep g l
keep_same f g [] h = refl
keep_same f g (x ∷ l) h =
    rw (h x (rw (self x)), keep_same f g l (λ n e. h n (by_case (eqb n x) (λ t. rw t) (λ t. rw t e)))) refl

pub has-without : (n m : ℕ) (l : List ℕ) → has m (without n l) ≡ has m l && not (eqb n m)
has-without n m [] = refl
has-without n m (x ∷ l) =
    by_case (eqb n x)
    (λ e. rw e (has-without n m l ∙ by_case (eqb m x) (λ t. rw (t, eqb-true m x t, e) (and_false (has x l) false refl)) (λ t. rw t)))
    (λ e. rw e (by_case (eqb m x) (λ t. rw (t, eqb-true m x t, e)) (λ t. rw t (has-without n m l))))

pub has-keep : (f : ℕ → Bool) (m : ℕ) (l : List ℕ) → has m l ≡ true → f m ≡ true → has m (keep f l) ≡ true
has-keep f m [] h e = h
has-keep f m (x ∷ l) h e =
    by_case (eqb m x)
    (λ t. rw (← eqb-true m x t, e, self m))
    (λ t. by_case (f x) (λ u. rw (u, t) (has-keep f m l (rw t at h) e)) (λ u. rw u (has-keep f m l (rw t at h) e)))

pub kept_has : (f : ℕ → Bool) (m : ℕ) (l : List ℕ) → has m (keep f l) ≡ true → f m ≡ true
kept_has f m [] h = absurd (true≢false (sym h))
kept_has f m (x ∷ l) h =
    by_case (f x)
    (λ u. by_case (eqb m x) (λ t. rw (eqb-true m x t) u) (λ t. kept_has f m l (rw (u, t) at h)))
    (λ u. kept_has f m l (rw u at h))

pub without_none : (n : ℕ) (l : List ℕ) → has n l ≡ false → without n l ≡ l
without_none n l h =
    keep_same (λ m. not (eqb n m)) (λ m. true) l (λ m e. by_case (eqb n m) (λ t. absurd (true≢false (sym e ∙ ap (λ z. has z l) (sym (eqb-true n m t)) ∙ h))) (λ t. rw t))
    ∙ sym (keep_all (λ m. true) l (λ m. refl))

-- ── in order ──
pub in_order_self : (l : List ℕ) → InOrder l l
in_order_self l = keep_all (λ n. true) l (λ n. refl) ∙ sym (keep_same (λ n. has n l) (λ n. true) l (λ n e. e))

-- what is left of a list is in it
pub in_order_has : (l m : List ℕ) (n : ℕ) → InOrder l m → has n m ≡ false → has n l ≡ false
in_order_has l m n e h = ap (has n) e ∙ has-keep-false (λ i. has i l) n m h

pub in_order_trans : (l m o : List ℕ) → InOrder l m → InOrder m o → InOrder l o
in_order_trans l m o e d =
    e ∙ ap (keep (λ n. has n l)) d ∙ keep-keep (λ n. has n l) (λ n. has n m) o
    ∙ keep_same (λ n. has n m && has n l) (λ n. has n l) o
    (λ n h. by_case (has n m) (λ t. rw t) (λ t. rw (t, in_order_has l m n e t)))

pub in_order_kept : (f : ℕ → Bool) (l : List ℕ) → InOrder (keep f l) l
in_order_kept f l =
    keep_same f (λ n. has n (keep f l)) l
    (λ n h. by_case (f n) (λ t. t ∙ sym (has-keep f n l h t))
    (λ t. t ∙ by_case (has n (keep f l)) (λ u. absurd (true≢false (sym (kept_has f n l u) ∙ t))) (λ u. sym u)))

-- a first number that is gone
pub in_order_cons : (n : ℕ) (l m : List ℕ) → has n l ≡ false → InOrder l m → InOrder l (n ∷ m)
in_order_cons n l m h e = rw h e

-- a first number that stays
pub in_order_both : (n : ℕ) (l m : List ℕ) → has n m ≡ false → InOrder l m → InOrder (n ∷ l) (n ∷ m)
in_order_both n l m h e =
    rw (self n)
    (ap (λ z. n ∷ z)
    (e ∙ keep_same (λ i. has i l) (λ i. has i (n ∷ l)) m
    (λ i t. by_case (eqb i n) (λ u. absurd (true≢false (sym t ∙ ap (λ z. has z m) (eqb-true i n u) ∙ h))) (λ u. rw u))))

module _ {A : Type 0} (g : A → ℕ) where
  pub in_order_keep : (f : A → Bool) (l : List A) → Once (map g l) → InOrder (map g (keep f l)) (map g l)
  in_order_keep f [] o = refl
  in_order_keep f (a ∷ l) o =
      by_case (f a)
      (λ t. subst (λ b. InOrder (map g (cond b (a ∷ keep f l) (keep f l))) (map g (a ∷ l))) (sym t) (in_order_both (g a) (map g (keep f l)) (map g l) o.0 (in_order_keep f l o.1)))
      (λ t. subst (λ b. InOrder (map g (cond b (a ∷ keep f l) (keep f l))) (map g (a ∷ l))) (sym t) (in_order_cons (g a) (map g (keep f l)) (map g l) (has-map-keep (g a) g f l o.0) (in_order_keep f l o.1)))

-- one more at the end of both
pub in_order_last : (k : ℕ) (l m : List ℕ) → has k l ≡ false → InOrder l m → InOrder (l ++ (k ∷ [])) (without k m ++ (k ∷ []))
in_order_last k l m h e =
    sym (keep_append (λ n. has n (l ++ (k ∷ []))) (without k m) (k ∷ [])
    ∙ ap (λ b. keep (λ n. has n (l ++ (k ∷ []))) (without k m) ++ cond b (k ∷ []) []) (has_last k l)
    ∙ ap (λ z. z ++ (k ∷ [])) (keep-keep (λ n. has n (l ++ (k ∷ []))) (λ n. not (eqb k n)) m ∙ keep_same _ _ m same ∙ sym e))
  where
    same : (n : ℕ) → has n m ≡ true → not (eqb k n) && has n (l ++ (k ∷ [])) ≡ has n l
    same n t =
        by_case (eqb k n)
        (λ u. rw u (sym (rw (eqb-true k n u) at h)))
        (λ u. rw (u, has_append n l (k ∷ []), eqb-sym k n u) (or_zero_lem (has n l)))
