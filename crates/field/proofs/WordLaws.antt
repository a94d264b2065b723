-- The eight words that show a field: what the code writes over the front of the lent ones.
use mathlib.Core.Path.{◌≡◌, refl, sym, ◌∙◌, ap}
use mathlib.Core.Bool.{cond}
use mathlib.Core.List.{List, [], ◌∷◌, ◌++◌, append_assoc}
use Prim.Native.Nat.{ℕ, suc, ◌+◌, ◌-◌, ◌≤◌, ◌<◌, ◌^◌, min}
use native.Mathlib.Omega.{arith}
use lib.Dec.{leb}
use lib.IntN.{ℤ, pos}
use lib.ListN.{length, take, drop, set, replicate, length-append, length-take, length-drop}
use lib.Seq.{take-append-add, take_at, drop_at, drop-drop}
use mir.Syntax.{w32}
use mir.Val.{to_z}
use mir.Facts.{to_z_pos}
use borrow.Author.Tests.{le-leb}
use borrow.Rule.Slice.PartMut.{put_mid}
use Rattle.std.proofs.lemmas.List.{take-replicate}
use Rattle.rules.specs.Limits.{member_limit, words_per_field}
use Rattle.rules.specs.Values as S
use Rattle.rules.specs.Values.{kind_of_field, values_of, padded, show}
use Rattle.field.specs.declared.Field.{Field}
use Rattle.field.specs.View.{view_field}
use Rattle.field.proofs.ViewLaws.{members, view_absent, view_number_lem, view_list, by_kind}

pub show-length : (g : S.Field) → length (show g) ≡ words_per_field
show-length g = let q : length (padded (values_of g)) ≡ member_limit = simp (length-take, length-append) (omega arith) in omega arith

padded_is : (l : List ℤ) → length l ≤ member_limit → padded l ≡ l ++ replicate (member_limit - length l) (pos 0)
padded_is l h =
    let e : length l + (member_limit - length l) ≡ member_limit = omega arith in
    rw e at (take-append-add l (replicate member_limit (pos 0)) (member_limit - length l))
    ∙ ap (λ r. l ++ r) (take-replicate (member_limit - length l) member_limit (pos 0) (omega arith))

kind_shown : (f : Field) → to_z w32 (min f.kind 2) ≡ pos (kind_of_field (view_field f))
kind_shown f =
    by_kind f (λ a. rw (view_absent f a, a) refl) (λ b. rw (view_number_lem f b, b) refl)
    (λ n m. let e : min f.kind 2 ≡ 2 = omega arith in rw (view_list f n m, e) refl)

-- of a list of six or more, the values l put over the front, and 0 up to the sixth
module _ (l r : List ℤ) (n m : ℕ) (e : length l ≡ n) (k : n + m ≡ member_limit) (h : member_limit ≤ length r) where
  values_over : take n (l ++ drop n r) ++ (replicate (length (take m (drop n (l ++ drop n r)))) (pos 0) ++ drop m (drop n (l ++ drop n r))) ≡ padded l ++ drop member_limit r
  values_over =
      let z : length (take m (drop n r)) ≡ m = simp (length-take, length-drop) (omega arith) in
      let d : member_limit - length l ≡ m = omega arith in
      rw (take_at l (drop n r) n e, drop_at l (drop n r) n e, z, drop-drop m n r, k, padded_is l (omega arith), d) (sym (append_assoc l (replicate m (pos 0)) (drop member_limit r)))

-- the words w after a and b at their front, the values l behind these, and 0 up to the eighth
abbrev with_values : List ℤ → ℤ → ℤ → List ℤ → List ℤ
with_values w a b l = put_mid 2 (2 + length l - 2) (set (set w 0 a) 1 b) l

-- as many 0 as w has words from n up to the eighth
abbrev zeros : ℕ → List ℤ → List ℤ
zeros n w = replicate (length (take (8 - n) (drop n w))) (pos 0)

abbrev with_all : List ℤ → ℤ → ℤ → List ℤ → List ℤ
with_all w a b l = put_mid (2 + length l) (8 - (2 + length l)) (with_values w a b l) (zeros (2 + length l) (with_values w a b l))

module _ (l : List ℤ) (few : length l ≤ member_limit) (a b : ℤ) where
  written : (w : List ℤ) → words_per_field ≤ length w → with_all w a b l ≡ a ∷ b ∷ (padded l ++ drop words_per_field w)
  written [] h = absurd (omega arith)
  written (x ∷ []) h = absurd (omega arith)
  written (x ∷ y ∷ r) h = go (length l) (member_limit - length l) refl refl
    where
      go : (n m : ℕ) → length l ≡ n → member_limit - n ≡ m → with_all (x ∷ y ∷ r) a b l ≡ a ∷ b ∷ (padded l ++ drop member_limit r)
      go n m e f =
          let e₁ : 2 + n ≡ suc (suc n) = omega arith in
          let e₂ : 2 + n - 2 ≡ n = omega arith in
          let e₃ : 8 - (2 + n) ≡ m = omega arith in
          rw (e, e₃, e₂, e₁) (ap (λ v. a ∷ b ∷ v) (values_over l r n m e (omega arith) (omega arith)))

-- l is the list of the values that count, ys and zs are what the code puts behind the first two words
module _ (f : Field) {l : List ℤ} (e : l ≡ members f) (few : length l ≤ member_limit) {k : ℕ} (q : k ≡ min f.kind 2) (w : List ℤ) (h : words_per_field ≤ length w) where
  abbrev lent : List ℤ → List ℤ
  lent ys = put_mid 2 (2 + length l - 2) (set (set w 0 (to_z w32 k)) 1 (to_z w32 (length l))) ys

  pub write_is : {ys zs : List ℤ} → ys ≡ l → zs ≡ zeros (2 + length l) (lent ys)
      → put_mid (2 + length l) (8 - (2 + length l)) (lent ys) zs ≡ cond (leb words_per_field (length w)) (show (view_field f) ++ drop words_per_field w) w
  write_is y z =
      let n : length l < 2 ^ 31 = omega arith in
      rw (le-leb _ _ h, z, y, written l few (to_z w32 k) (to_z w32 (length l)) w h, q, kind_shown f, to_z_pos w32 n, e)
