-- What the code's tests of what a call answered say of it, and the bytes that a part leaves unused.
use Prim.Native.Nat.{ℕ, zero, suc, ◌+◌, ◌-◌, ◌≤◌}
use native.Mathlib.Nat.{min-eq_left}
use native.Mathlib.Omega.{arith}
use mathlib.Core.Path.{◌≡◌, refl, sym, ◌∙◌, ap, subst}
use mathlib.Core.Bool.{Bool, true, false, cond, ◌&&◌, true≢false}
use mathlib.Core.List.{List, [], ◌∷◌}
use lib.Dec.{eqb}
use lib.ListN.{length, take, drop, length-take, length-drop}
use lib.Seq.{drop-drop, take-nil}
use borrow.Author.Tests.{ne_eqb, eqb-false, eqb-true, ltb-true}
use Rattle.std.specs.Prelude.{ℤ, pos, negsuc, Result, Ok, Err, IfOk, if◌then◌else◌, ◌==◌, int_lt}
use Rattle.std.specs.IoError.{error_kind, os_error_kind, os_error_kinds, kind_in}
use Rattle.std.specs.declared.io.Error.{Error}
use Rattle.std.specs.declared.io.ErrorKind.{ErrorKind}
use Rattle.std.specs.declared.io.ErrorKind.TheVariants.{Uncategorized}
use Rattle.std.proofs.Common.{inl, inr}
use Rattle.std.proofs.lemmas.Bool.{or_cases}
use Rattle.rules.proofs.Laws.{by_case, and_true}
use Rattle.line_print.specs.Line.{longest}
use Rattle.kagbitu.specs.Part.{unused, Inside, First, Rest}
use Rattle.kagbitu.specs.declared.part.Part.{Part}
use Rattle.kagbitu.specs.Transfer.{passing, passing_kind, transfer_of, CameTo}
use Rattle.kagbitu.specs.declared.transfer.Transfer.{Transfer}
use Rattle.kagbitu.specs.declared.transfer.Transfer.TheVariants as o

-- ── what a call answered ──
-- bytes that moved are one or more, and no more than were lent
some_moved : (a : Result ℕ Error) (l n : ℕ) → IfOk a (λ k. k ≤ l) → o.Moved n ≡ transfer_of a l → (1 ≤ n) × (n ≤ l)
some_moved (Ok zero) l n m q = let e : o.Moved n ≡ o.End = q in cc
some_moved (Ok (suc k)) l n m q =
    let one : (suc k ≡ 0 → ⊥) = λ x. omega (arith, x) in
    let p = rw (ne_eqb (suc k) 0 one) at q in
    let i : n ≡ suc k = cc (p, min-eq_left {n = suc k} {m = l} m) in
    (omega (arith, i), omega (arith, i, m))
some_moved (Err e) l n m q = go (passing_kind (error_kind e)) q
  where
    go : (b : Bool) → o.Moved n ≡ cond b o.Again (o.Failed e) → (1 ≤ n) × (n ≤ l)
    go true x = let y : ◌≡◌ {A = ℕ} 0 1 = cc in absurd (omega (arith, y))
    go false x = let y : ◌≡◌ {A = ℕ} 0 1 = cc in absurd (omega (arith, y))

pub moved_within : (l n : ℕ) (r : Transfer) → CameTo l r → r ≡ o.Moved n → (1 ≤ n) × (n ≤ l)
moved_within l n r a q = some_moved a.answer l n a.moved (sym q ∙ a.told)

-- ── the kinds of errors, and their numbers ──
-- a number that has a kind of a passing error is one of a passing error, as far as these rows say
abbrev rows_fit : List (ℕ × ErrorKind) → Bool
rows_fit [] = true
rows_fit (row ∷ rows) = cond (passing_kind row.1) (passing (pos row.0)) true && rows_fit rows

number_fits : (rows : List (ℕ × ErrorKind)) (n : ℕ) → rows_fit rows ≡ true → passing_kind (kind_in rows n) ≡ true → passing (pos n) ≡ true
number_fits [] n f h = absurd (true≢false (sym h))
number_fits (row ∷ rows) n f h =
    by_case (n == row.0)
    (λ t.
    let k : passing_kind row.1 ≡ true = subst (λ b. passing_kind (if b then row.1 else kind_in rows n) ≡ true) t h in
    let p : passing (pos row.0) ≡ true = subst (λ b. cond b (passing (pos row.0)) true ≡ true) k (and_true _ _ f).0 in
    subst (λ m. passing (pos m) ≡ true) (sym (eqb-true n row.0 t)) p)
    (λ t. number_fits rows n (and_true _ _ f).1 (subst (λ b. passing_kind (if b then row.1 else kind_in rows n) ≡ true) t h))

number_in_rows : (n : ℕ) → passing_kind (kind_in os_error_kinds n) ≡ passing (pos n)
number_in_rows n =
    by_case (passing (pos n))
    (λ t.
    elim (or_cases (eqb n 4) (eqb n 11) t) [
      | inl e ↦ subst (λ m. passing_kind (kind_in os_error_kinds m) ≡ passing (pos m)) (sym (eqb-true n 4 e)) refl
      | inr e ↦ subst (λ m. passing_kind (kind_in os_error_kinds m) ≡ passing (pos m)) (sym (eqb-true n 11 e)) refl
    ])
    (λ f.
    by_case (passing_kind (kind_in os_error_kinds n))
    (λ t. absurd (true≢false (sym (number_fits os_error_kinds n refl t) ∙ f)))
    (λ t. t ∙ sym f))

kind_of_number : (n : ℕ) → os_error_kind (pos n) ≡ kind_in os_error_kinds n
unfolding os_error_kind
kind_of_number n =
    by_case (int_lt (pos n) (pos 0))
    (λ t. absurd (omega (arith, ltb-true n 0 t)))
    (λ f. subst (λ b. (if b then Uncategorized else kind_in os_error_kinds n) ≡ kind_in os_error_kinds n) (sym f) refl)

passing_number : (code : ℤ) → passing_kind (os_error_kind code) ≡ passing code
unfolding os_error_kind
passing_number (negsuc n) = refl
passing_number (pos n) = ap passing_kind (kind_of_number n) ∙ number_in_rows n

-- what is told of a kind holds of its number
pub told_of_number : (k : ErrorKind) (b : Bool) → b ≡ passing_kind k → (code : ℤ) → k ≡ os_error_kind code → b ≡ passing code
told_of_number k b h code e = h ∙ ap passing_kind e ∙ passing_number code

-- ── a part ──
drop-take : {A : Type 0} (m n : ℕ) (l : List A) → drop m (take n l) ≡ take (n - m) (drop m l)
drop-take zero n l = let e : n - 0 ≡ n = omega arith in rw e refl
drop-take (suc m) zero l = let e : 0 - suc m ≡ 0 = omega arith in rw e refl
drop-take (suc m) (suc n) [] = sym (take-nil (suc n - suc m))
drop-take (suc m) (suc n) (x ∷ l) = let e : suc n - suc m ≡ n - m = omega arith in rw e (drop-take m n l)

pub none_unused : (p : Part) (l : List ℕ) → p.at ≡ p.end → unused p l ≡ []
none_unused p l h = let e : p.end - p.at ≡ 0 = omega (arith, h) in rw e refl

pub first_unused : (n : ℕ) (p : Part) (l : List ℕ) → First n p → unused p l ≡ take n l
first_unused n p l f = let e : n - 0 ≡ n = omega arith in rw (f.begins, f.ends, e) refl

pub rest_unused : (n : ℕ) (p q : Part) (l : List ℕ) → Rest n p q → unused q l ≡ drop n (unused p l)
rest_unused n p q l f =
    let e : p.end - (p.at + n) ≡ p.end - p.at - n = omega arith in
    rw (f.begins, f.ends, e) (sym (drop-take n (p.end - p.at) (drop p.at l) ∙ ap (take (p.end - p.at - n)) (drop-drop n p.at l)))

-- ── what moved, or was used, of a part ──
module _ (p : Part) (l : List ℕ) (i : Inside p l) where
  unused-length : length (unused p l) ≡ p.end - p.at
  unused-length = simp (length-take, length-drop) (min-eq_left {n = p.end - p.at} {m = length l - p.at} (omega (arith, i.0, i.1)))

  pub used_inside : (n : ℕ) → n ≤ length (unused p l) → p.at + n ≤ p.end
  used_inside n h = omega (arith, i.0, h, unused-length)

  pub moved_inside : (n : ℕ) (r : Transfer) → CameTo (length (unused p l)) r → r ≡ o.Moved n → p.at + n ≤ p.end
  moved_inside n r a q = used_inside n (moved_within (length (unused p l)) n r a q).1

  pub rest_inside : (n : ℕ) (q : Part) → p.at + n ≤ p.end → Rest n p q → Inside q l
  rest_inside n q h f = (omega (arith, h, f.begins, f.ends), omega (arith, i.1, f.ends))

  -- `feed` uses some of a part that is not empty, where there is room for an answer
  pub used_some : eqb p.at p.end ≡ false → (n lent : ℕ) → longest ≤ lent → (longest ≤ lent → n ≡ 0 → length (unused p l) ≡ 0) → 1 ≤ n
  used_some h zero lent r f = absurd (eqb-false p.at p.end h (omega (arith, i.0, unused-length, f r refl)))
  used_some h (suc n) lent r f = omega arith
