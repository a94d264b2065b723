-- Parts of a list one after the other, each n long; one that reaches past the end ends there, and so do those after it.
use Prim.Native.Nat.{ℕ, ◌+◌, ◌-◌, min}
use native.Mathlib.Omega.{arith}
use mathlib.Core.Path.{◌≡◌, sym, ◌∙◌, ap}
use mathlib.Core.List.{List}
use lib.Dec.{leb}
use lib.ListN.{length, take, drop, length-drop, drop_of_length-le}
use lib.Seq.{take_all}
use borrow.Author.Tests.{leb-true, leb-false}
use Rattle.rules.proofs.Laws.{by_case}

module _ {A : Type 0} where
  pub clip_take : (k : ℕ) (l : List A) → take (min k (length l)) l ≡ take k l
  clip_take k l =
      by_case (leb k (length l))
      (λ t. let h = leb-true k (length l) t in let e : min k (length l) ≡ k = omega (arith, h) in ap (λ i. take i l) e)
      (λ f. let h = leb-false k (length l) f in let e : min k (length l) ≡ length l = omega (arith, h) in ap (λ i. take i l) e ∙ take_all (length l) l (omega arith) ∙ sym (take_all k l (omega (arith, h))))

  pub clip_drop : (k : ℕ) (l : List A) → drop (min k (length l)) l ≡ drop k l
  clip_drop k l =
      by_case (leb k (length l))
      (λ t. let h = leb-true k (length l) t in let e : min k (length l) ≡ k = omega (arith, h) in ap (λ i. drop i l) e)
      (λ f. let h = leb-false k (length l) f in let e : min k (length l) ≡ length l = omega (arith, h) in ap (λ i. drop i l) e ∙ drop_of_length-le l {i = length l} (omega arith) ∙ sym (drop_of_length-le l {i = k} (omega (arith, h))))

  -- a position up to which k are taken, as far as there are so many
  module _ (l : List A) (k at : ℕ) (e : at ≡ min k (length l)) where
    pub front_is : take at l ≡ take k l
    front_is = ap (λ j. take j l) e ∙ clip_take k l

    pub rest_is : drop at l ≡ drop k l
    rest_is = ap (λ j. drop j l) e ∙ clip_drop k l

    -- and one that comes n after it
    module _ (n next : ℕ) (en : next ≡ at + min n (length l - at)) where
      pub next_is : next ≡ min (k + n) (length l)
      next_is = omega (arith, e, en)

      pub part_is : take (next - at) (drop at l) ≡ take n (drop k l)
      part_is =
          let size : next - at ≡ min n (length (drop at l)) = rw length-drop (omega (arith, en)) in
          ap (λ j. take j (drop at l)) size ∙ clip_take n (drop at l) ∙ ap (take n) rest_is
