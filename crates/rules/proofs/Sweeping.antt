-- What a sweep takes: the first rows that may go, and what is left of the rows without them.
use Prim.Native.Nat.{◌+◌, suc, zero, ℕ}
use native.Mathlib.Omega.{arith}
use mathlib.Core.Path.{◌∙◌, ◌≡◌, ap, refl, subst, sym}
use mathlib.Core.Bool.{Bool, cond, false, not, true, true≢false}
use mathlib.Core.Logic.{◌⊎◌}
use mathlib.Core.List.{List, [], ◌++◌, ◌∷◌, map}
use lib.ListN.{length, length-append, take}
use lib.Dec.{eqb}
use borrow.Author.Tests.{eqb-true}
use Rattle.rules.specs.Lists.{keep, any, all, has}
use Rattle.rules.specs.Limits.{sweep_limit}
use Rattle.rules.specs.Tables.{is_buffered, Hand, empty, holds, handed, in_hand, any_hand, Plant, removable}
use Rattle.rules.specs.Effects.{removed, swept}
use Rattle.rules.specs.Kept.{good_number}
use Rattle.rules.proofs.Laws.{by_case, self}
use Rattle.rules.proofs.Tests.{Once, all_take, keep_all}
use Rattle.rules.proofs.KeptParts.{Kept}
use Rattle.rules.proofs.Buffer.{not_swept, has_kept, not_held}
use Rattle.rules.proofs.InOrder.{keep_same}

-- ── the first numbers of a list that pass a test ──
all_kept : (f : ℕ → Bool) (l : List ℕ) → all f (keep f l) ≡ true
all_kept f [] = refl
all_kept f (x ∷ l) = by_case (f x) (λ e. rw (e, e) (all_kept f l)) (λ e. rw e (all_kept f l))

pub split-length : (f : ℕ → Bool) (l : List ℕ) → length (keep f l) + length (keep (λ n. not (f n)) l) ≡ length l
split-length f [] = refl
split-length f (x ∷ l) = by_case (f x) (λ e. rw e (omega (arith, split-length f l))) (λ e. rw e (omega (arith, split-length f l)))

-- the first n that pass are those that pass in a first part; without them the rest of that part is left, and all after it
pub record Parted (f : ℕ → Bool) (n : ℕ) (l : List ℕ) : Type 0 where
  pub first : List ℕ
  pub rest : List ℕ
  pub split : l ≡ first ++ rest
  pub left : keep (λ m. not (has m (take n (keep f l)))) l ≡ keep (λ m. not (f m)) first ++ rest
  pub gone : length (take n (keep f l)) ≡ length (keep f first)

pub parted : (f : ℕ → Bool) (n : ℕ) (l : List ℕ) → Once l → Parted f n l
parted f zero l o = record { first = []; rest = l; split = refl; left = sym (keep_all (λ m. true) l (λ m. refl)); gone = refl }
parted f (suc n) [] o = record { first = []; rest = []; split = refl; left = refl; gone = refl }
parted f (suc n) (x ∷ l) o = by_case (f x) (λ t. passes t (parted f n l o.1)) (λ t. fails t (parted f (suc n) l o.1))
  where
    passes : f x ≡ true → Parted f n l → Parted f (suc n) (x ∷ l)
    passes t r =
        record {
          first = x ∷ r.first;
          rest = r.rest;
          split = ap (λ z. x ∷ z) r.split;
          left = subst (λ b. keep (λ m. not (has m (take (suc n) (cond b (x ∷ keep f l) (keep f l))))) (x ∷ l) ≡ keep (λ m. not (f m)) (x ∷ r.first) ++ r.rest) (sym t) (rw (t, self x) (keep_same _ _ l other ∙ r.left));
          gone = rw t (ap suc r.gone);
        }
      where
        other : (m : ℕ) → has m l ≡ true → not (has m (x ∷ take n (keep f l))) ≡ not (has m (take n (keep f l)))
        other m h = by_case (eqb m x) (λ u. absurd (true≢false (sym h ∙ ap (λ z. has z l) (eqb-true m x u) ∙ o.0))) (λ u. rw u)

    fails : f x ≡ false → Parted f (suc n) l → Parted f (suc n) (x ∷ l)
    fails t r =
        record {
          first = x ∷ r.first;
          rest = r.rest;
          split = ap (λ z. x ∷ z) r.split;
          left = subst (λ b. keep (λ m. not (has m (take (suc n) (cond b (x ∷ keep f l) (keep f l))))) (x ∷ l) ≡ keep (λ m. not (f m)) (x ∷ r.first) ++ r.rest) (sym t) (rw (t, not_swept f x (take (suc n) (keep f l)) (all_take f (suc n) (keep f l) (all_kept f l)) t) (ap (λ z. x ∷ z) r.left));
          gone = rw t r.gone;
        }

-- ── a sweep ──
-- the rows that it leaves
abbrev pub rows_left : Plant → List ℕ
rows_left p = keep (λ n. not (has n (removed p))) p.rows

-- a row that somebody needs is among them as before
pub row_stays : (p : Plant) (n : ℕ) → (is_buffered n p.buffer ≡ true) ⊎ (any_hand p.hands n ≡ true) → has n (rows_left p) ≡ has n p.rows
row_stays p n h =
    has_kept (removed p) n p.rows
    (not_swept (removable p) n (removed p) (all_take (removable p) sweep_limit (keep (removable p) p.rows) (all_kept (removable p) p.rows))
    (not_held p n h))

-- a row's session has a number
pub row_good : (n : ℕ) (p : Plant) → Kept p → has n p.rows ≡ true → good_number p.next n ≡ true
row_good n p k h =
    by_case (good_number p.next n) (λ t. t) (λ t. absurd (true≢false (sym h ∙ not_swept (good_number p.next) n p.rows k.rows.numbers t)))

-- so whether it is in a hand is told by what the hands give: an empty one gives 0, which is none
pub row_in_hands : (n : ℕ) (p : Plant) → Kept p → has n p.rows ≡ true → (l : List ℕ)
    → any (λ w. in_hand n (p.hands w)) l ≡ has n (map (λ w. handed (p.hands w)) l)
row_in_hands n p k h [] = refl
row_in_hands n p k h (w ∷ l) = rw (one (p.hands w), row_in_hands n p k h l) refl
  where
    one : (x : Hand) → in_hand n x ≡ eqb n (handed x)
    one empty = by_case (eqb n 0) (λ t. absurd (true≢false (sym (row_good n p k h) ∙ rw (eqb-true n 0 t) refl))) (λ t. sym t)
    one (holds m r) = refl

-- as many are gone as are answered
pub swept_count : (p : Plant) → Once p.rows → length (swept p).rows + length (removed p) ≡ length p.rows
unfolding swept
swept_count p o =
    let r = parted (removable p) sweep_limit p.rows o in
    omega (
      arith,
      ap length r.left ∙ length-append (keep (λ n. not (removable p n)) r.first) r.rest,
      ap length r.split ∙ length-append r.first r.rest,
      r.gone,
      split-length (removable p) r.first,
    )
