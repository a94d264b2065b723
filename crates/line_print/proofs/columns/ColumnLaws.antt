-- A number's columns, filled from the last digit: one law for each way out of a function.
use mathlib.Core.Path.{◌≡◌, refl, sym, ◌∙◌, ap}
use mathlib.Core.Bool.{Bool, true, false, cond, true≢false}
use mathlib.Core.List.{List, [], ◌∷◌, ◌++◌}
use Prim.Native.Nat.{ℕ, zero, suc, ◌+◌, ◌-◌, ◌/◌, ◌%◌, ◌≤◌, ◌<◌}
use native.Mathlib.Omega.{arith}
use lib.Dec.{ltb}
use lib.IntN.{pos}
use lib.ListN.{length, take, drop, set, replicate, length-append, length-drop, length-set, length-replicate, take-append-drop}
use lib.Seq.{drop-cons, get_or-set_same, drop-set-lt, take-set-le, take_at, drop_at, take-take, set_at, append_snoc}
use Rattle.std.proofs.Common.{◌⊎◌, inl, inr}
use Rattle.rules.proofs.Laws.{by_case}
use borrow.Author.Tests.{le-leb, lt-leb, lt-ltb, le-ltb}
use Rattle.line_format.specs.Bytes.{space, minus, digit_zero, base, call_width}
use Rattle.line_format.specs.Columns.{before, digits_in, column}
use Rattle.line_format.proofs.Widths.{replicate_last, spaces, columns_long}
use Rattle.line_print.specs.columns.Printed.{printed}

-- ── the columns before the digits ──
pub sign_none : (negative : Bool) (w : ℕ) (v : List ℕ) → take w v ≡ replicate w space → (negative ≡ true × w ≤ 0) ⊎ (negative ≡ false) → v ≡ before negative w ++ drop w v
sign_none negative zero v e h = refl
sign_none true (suc j) v e (inl h) = absurd (omega (arith, h.1))
sign_none true (suc j) v e (inr h) = absurd (true≢false h)
sign_none false (suc j) v e h = sym (take-append-drop (suc j) v) ∙ ap (λ (l : List ℕ). l ++ drop (suc j) v) (e ∙ sym (spaces (suc j)))

pub sign_put : (negative : Bool) (w : ℕ) (v : List ℕ) → take w v ≡ replicate w space → negative ≡ true → 0 < w → set v (w - 1) minus ≡ before negative w ++ drop w v
sign_put false w v e h n = absurd (true≢false (sym h))
sign_put true zero v e h n = absurd (omega arith)
sign_put true (suc j) v e h n =
    let q : suc j - 1 ≡ j = omega arith in
    let s : v ≡ replicate j space ++ (space ∷ drop (suc j) v) = sym (take-append-drop (suc j) v) ∙ ap (λ (l : List ℕ). l ++ drop (suc j) v) (e ∙ sym (replicate_last j space)) ∙ append_snoc (replicate j space) space (drop (suc j) v) in
    rw q
    (ap (λ (l : List ℕ). set l j minus) s
    ∙ set_at (replicate j space) space (drop (suc j) v) minus j (length-replicate j space)
    ∙ sym (append_snoc (replicate j space) minus (drop (suc j) v)))

-- ── the loop over w columns: what is still to fill stands before what is filled ──
pub record Filling (negative : Bool) (n w : ℕ) (v vs : List ℕ) (rest i : ℕ) : Type 0 where
  pub room : w ≤ length v
  pub at : i ≤ w
  pub long : length vs ≡ length v
  pub blank : take i vs ≡ replicate i space
  pub todo : digits_in negative w n ++ drop w v ≡ digits_in negative i rest ++ drop i vs

pub too_few : (negative : Bool) (n w : ℕ) (u : List ℕ) → length u < w → u ≡ printed (digits_in negative w n) u
unfolding printed
too_few negative n w u h = rw (columns_long negative w n, lt-leb w (length u) h) refl

-- v is the lent u with its columns blank
abbrev pub Blanked : ℕ → List ℕ → List ℕ → Type 0
Blanked w u v = v ≡ replicate w space ++ drop w u

pub fill_start : (negative : Bool) (n w : ℕ) (u v : List ℕ) → w ≤ length u → Blanked w u v → Filling negative n w v v n w
fill_start negative n w u v h b =
    let r = length-replicate w space in
    record {
      room = rw b (simp (length-append, length-drop) (omega arith));
      at = omega arith;
      long = refl;
      blank = ap (take w) b ∙ take_at (replicate w space) (drop w u) w r;
      todo = refl;
    }

all_filled : (negative : Bool) (n w : ℕ) (u v vs : List ℕ) → w ≤ length u → Blanked w u v → digits_in negative w n ++ drop w v ≡ vs → vs ≡ printed (digits_in negative w n) u
unfolding printed
all_filled negative n w u v vs h b e =
    rw (columns_long negative w n, le-leb w (length u) h)
    (sym e ∙ ap (λ (l : List ℕ). digits_in negative w n ++ l) (ap (drop w) b ∙ drop_at (replicate w space) (drop w u) w (length-replicate w space)))

module _ {negative : Bool} {n w : ℕ} {v vs : List ℕ} {rest i : ℕ} (inv : Filling negative n w v vs rest i) where
  pub fill_end : (u : List ℕ) → w ≤ length u → Blanked w u v → i ≤ 0 → vs ≡ printed (digits_in negative w n) u
  fill_end u m b h = let z : i ≡ 0 = omega arith in all_filled negative n w u v vs m b (inv.todo ∙ rw z refl)

  module _ (j x : ℕ) (e : i ≡ suc j) (d : x ≡ digit_zero + rest % base) where
    within : j < length vs
    within = let r = inv.room in let a = inv.at in let l = inv.long in omega arith

    still_blank : take j (set vs j x) ≡ replicate j space
    still_blank =
        take-set-le j vs j x (omega arith)
        ∙ sym (take-take j (suc j) vs (omega arith))
        ∙ ap (take j) (rw e at inv.blank ∙ sym (replicate_last j space))
        ∙ take_at (replicate j space) (space ∷ []) j (length-replicate j space)

    digit_first : drop j (set vs j x) ≡ x ∷ drop (suc j) vs
    digit_first =
        let l : j < length (set vs j x) = rw length-set within in
        drop-cons (set vs j x) j 0 l ∙ rw (get_or-set_same vs j x 0 within, drop-set-lt (suc j) vs j x (omega arith)) refl

    -- the digit moves from what is to fill to what is filled
    moved : digits_in negative w n ++ drop w v ≡ cond (ltb rest base) (before negative j) (digits_in negative j (rest / base)) ++ drop j (set vs j x)
    moved = inv.todo ∙ rw (e, digit_first, d) (append_snoc (cond (ltb rest base) (before negative j) (digits_in negative j (rest / base))) (digit_zero + rest % base) (drop (suc j) vs))

    pub fill_next : base ≤ rest → Filling negative n w v (set vs j x) (rest / base) j
    fill_next h =
        let a = inv.at in
        record { room = inv.room; at = omega arith; long = length-set vs j x ∙ inv.long; blank = still_blank; todo = moved ∙ rw (le-ltb rest base h) refl }

    pub fill_sign : (j ≤ length (set vs j x)) × (take j (set vs j x) ≡ replicate j space)
    fill_sign = (let w = within in rw length-set (omega arith), still_blank)

    pub fill_last : (u ys : List ℕ) → w ≤ length u → Blanked w u v → rest < base → ys ≡ before negative j ++ drop j (set vs j x) → ys ≡ printed (digits_in negative w n) u
    fill_last u ys m b h q = all_filled negative n w u v ys m b (moved ∙ rw (lt-ltb rest base h) (sym q))

-- ── the two columns of a refusal ──
two_set : (u : List ℕ) (a b : ℕ) → 2 ≤ length u → set (set u 0 a) 1 b ≡ a ∷ b ∷ drop 2 u
two_set [] a b h = absurd (omega arith)
two_set (x ∷ []) a b h = absurd (omega arith)
two_set (x ∷ y ∷ u) a b h = refl

module _ (n : ℕ) (u : List ℕ) where
  pub refusal_few : length u < call_width → u ≡ printed (column call_width (pos n)) u
  unfolding column
  refusal_few h = too_few false n call_width u h

  module _ (a b : ℕ) (h : call_width ≤ length u) (e : b ≡ digit_zero + n % base) where
    two_printed : column call_width (pos n) ≡ a ∷ b ∷ [] → set (set u 0 a) 1 b ≡ printed (column call_width (pos n)) u
    unfolding printed
    two_printed q = rw (q, le-leb call_width (length u) h) (two_set u a b h)

    pub refusal_one : n < base → a ≡ space → set (set u 0 a) 1 b ≡ printed (column call_width (pos n)) u
    unfolding column
    refusal_one m q = two_printed (rw (lt-ltb n base m, e, q) refl)

    pub refusal_two : base ≤ n → a ≡ digit_zero + n / base % base → set (set u 0 a) 1 b ≡ printed (column call_width (pos n)) u
    unfolding column
    refusal_two m q = two_printed (rw (le-ltb n base m, e, q) (by_case (ltb (n / base) base) (λ t. rw t refl) (λ t. rw t refl)))
