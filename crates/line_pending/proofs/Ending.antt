-- The end of a line in a piece: where it is found, and how it cuts the piece.
use Prim.Native.Nat.{◌+◌, ◌-◌, ◌<◌, ◌≤◌, suc, ℕ}
use native.Mathlib.Nat.{suc-add}
use native.Mathlib.Omega.{arith}
use mathlib.Core.Path.{◌≡◌, ◌∙◌, ap, refl, sym}
use mathlib.Core.Bool.{Bool, false}
use mathlib.Core.List.{List, [], ◌++◌, ◌∷◌}
use lib.ListN.{drop, drop_of_length-le, length, length-drop, take}
use lib.Seq.{drop-drop, take_all, take-nil}
use lib.Dec.{eqb, ltb}
use borrow.Author.Tests.{eqb-true, ltb-false, ltb-true}
use Rattle.std.specs.Prelude as P
use Rattle.std.specs.Prelude.{Some, None, position, unwrap_or, option_map}
use Rattle.std.specs.List.{position_from}
use Rattle.std.proofs.lemmas.Iterator.Adapters.{position_from-zero}
use Rattle.rules.proofs.Laws.{by_case}
use Rattle.lists.specs.Find.{first_at}
use Rattle.line_format.specs.Bytes.{newline}
use Rattle.line_format.specs.Feeding.{complete, has_end, unended}
use Rattle.line_format.proofs.Cutting.{more_complete, more_unended}
use Rattle.line_pending.specs.View.{between, end_from}

-- ── the first that `position` finds ──
module _ (p : ℕ → Bool) where
  first_from : (none i : ℕ) (l : List ℕ) → first_at p none i l ≡ unwrap_or (position_from p i l) none
  unfolding first_at
  first_from none i [] = refl
  first_from none i (b ∷ l) = by_case (p b) (λ t. rw t) (λ t. rw t (first_from none (i + 1) l))

  position_on : (i k : ℕ) (l : List ℕ) → position_from p (i + k) l ≡ option_map (λ n. i + n) (position_from p k l)
  position_on i k [] = refl
  position_on i k (b ∷ l) = let e : i + k + 1 ≡ i + (k + 1) = omega arith in by_case (p b) (λ t. rw t) (λ t. rw (t, e) (position_on i (k + 1) l))

module _ (from : ℕ) (l : List ℕ) {rest : List ℕ} {r : P.Option ℕ} where
  end_is : r ≡ position (λ b. eqb b newline) rest → rest ≡ drop from l → end_from from l ≡ unwrap_or (option_map (λ n. from + n) r) (length l)
  unfolding end_from
  end_is e f =
      let p = λ (b : ℕ). eqb b newline in
      let z : from ≡ from + 0 = omega arith in
      rw (← f)
      (first_from p (length l) from rest
      ∙ ap (λ o. unwrap_or o (length l)) (ap (λ i. position_from p i rest) z ∙ position_on p from 0 rest ∙ ap (option_map (λ n. from + n)) (sym (e ∙ position_from-zero p rest))))

  pub end_some : (n : ℕ) → r ≡ Some n → r ≡ position (λ b. eqb b newline) rest → rest ≡ drop from l → from + n ≡ end_from from l
  end_some n h e f = sym (end_is e f ∙ rw h)

  pub end_past : r ≡ None → r ≡ position (λ b. eqb b newline) rest → rest ≡ drop from l → length l ≡ end_from from l
  end_past h e f = sym (end_is e f ∙ rw h)

-- ── a list, of positions from i on, cut at e: no byte 10 before it, and one there ──
record Cut (l : List ℕ) (i e : ℕ) : Type 0 where
  at : i ≤ e
  within : e ≤ i + length l
  front : has_end (take (e - i) l) ≡ false
  found : e < i + length l → l ≡ take (e - i) l ++ (newline ∷ drop (e - i + 1) l)

cut : (l : List ℕ) (i n : ℕ) → n ≡ i + length l → Cut l i (first_at (λ b. eqb b newline) n i l)
unfolding first_at
cut [] i n h = record { at = omega arith; within = omega arith; front = rw (take-nil (n - i)); found = λ k. absurd (omega arith) }
cut (b ∷ l) i n h =
    by_case (eqb b newline)
    (λ t. let z : i - i ≡ 0 = omega arith in
    rw t record { at = omega arith; within = omega arith; front = rw z; found = λ k. rw (z, eqb-true b newline t) })
    (λ t. let c = cut l (i + 1) n (omega arith) in
    let e = first_at (λ b. eqb b newline) n (i + 1) l in
    let s : e - i ≡ suc (e - (i + 1)) = omega (arith, c.at) in
    rw t
    record {
      at = omega (arith, c.at);
      within = omega (arith, c.within);
      front = rw (s, t) c.front;
      found = λ k. rw (s, suc-add (e - (i + 1)) 1) (ap (λ l. b ∷ l) (c.found (omega arith)));
    })

module _ (from : ℕ) (l : List ℕ) where
  past : length l < from → end_from from l ≡ length l
  unfolding end_from first_at
  past h = let q : length l ≤ from = omega arith in rw (drop_of_length-le l q) refl

  cut_here : from ≤ length l → Cut (drop from l) from (end_from from l)
  unfolding end_from
  cut_here h = cut (drop from l) from (length l) (rw (length-drop from l) (omega arith))

  pub end_at : from ≤ length l → from ≤ end_from from l
  end_at h = (cut_here h).at

  pub end_within : end_from from l ≤ length l
  end_within =
      by_case (ltb (length l) from)
      (λ t. omega (arith, past (ltb-true (length l) from t)))
      (λ t. let w = ltb-false (length l) from t in omega (arith, rw (length-drop from l) at (cut_here w).within))

  -- up to there the piece has no byte 10
  pub end_front : has_end (between from (end_from from l) l) ≡ false
  end_front =
      by_case (ltb (length l) from)
      (λ t. let q : length l ≤ from = omega (arith, ltb-true (length l) from t) in rw (drop_of_length-le l q, take-nil (end_from from l - from)))
      (λ t. (cut_here (ltb-false (length l) from t)).front)

  -- within the piece there is one
  pub end_found : end_from from l < length l → drop from l ≡ between from (end_from from l) l ++ (newline ∷ drop (end_from from l + 1) l)
  end_found h =
      by_case (ltb (length l) from)
      (λ t. absurd (omega (arith, past (ltb-true (length l) from t))))
      (λ t. let w = ltb-false (length l) from t in
      let c = cut_here w in
      let s : from + (end_from from l - from + 1) ≡ end_from from l + 1 = omega (arith, c.at) in
      c.found (rw (length-drop from l) (omega arith)) ∙ rw (drop-drop (end_from from l - from + 1) from l, s))

  -- at its end there is none
  pub end_none : length l ≤ end_from from l → between from (end_from from l) l ≡ drop from l
  end_none h = take_all (end_from from l - from) (drop from l) (rw (length-drop from l) (omega arith))

-- ── u is not ended before the position: the line that ends in the piece, or else all of u and the piece ──
module _ (u : List ℕ) (free : has_end u ≡ false) (from : ℕ) (l : List ℕ) where
  pub none_complete : length l ≤ end_from from l → complete (u ++ drop from l) ≡ []
  none_complete h = more_complete u (drop from l) free (rw (end_none from l h) at (end_front from l))

  pub none_unended : length l ≤ end_from from l → unended (u ++ drop from l) ≡ u ++ between from (end_from from l) l
  none_unended h = more_unended u (drop from l) free (rw (end_none from l h) at (end_front from l)) ∙ ap (λ m. u ++ m) (sym (end_none from l h))
