-- Columns: past the spaces, along the digits, with the sign; and the columns of a line.
use Prim.Native.Nat.{ℕ, zero, suc, ◌+◌, ◌-◌, ◌≤◌, ◌<◌, ◌^◌}
use native.Mathlib.Omega.{arith}
use native.Mathlib.Nat.{pow-le-pow_right}
use mathlib.Core.Path.{◌≡◌, refl, sym, ◌∙◌, ap}
use mathlib.Core.Bool.{cond, not}
use mathlib.Core.Option.{Option, none, some}
use mathlib.Core.List.{List, [], ◌∷◌}
use lib.ListN.{length, get_or, take, drop, length-drop, drop_of_length-le}
use lib.Seq.{take_all}
use lib.Dec.{eqb, ltb, lit<}
use lib.IntN.{ℤ, pos, negsuc, ◌-ℤ◌, +ℤ_idl}
use mir.Syntax.{w64}
use mir.Val.{SFits, to_z, of_z}
use mir.Facts.{to_z-of_z, to_z_pos}
use borrow.Author.Rules.{rules}
use borrow.Author.Tests.{lt-ltb, le-ltb, ltb-false, ne_eqb}
use Rattle.rules.specs.Lists.{all}
use Rattle.rules.proofs.Laws.{by_case}
use Rattle.std.specs.Prelude as P
use Rattle.std.specs.Prelude.{position, unwrap_or}
use Rattle.std.specs.Bool.{then_some}
use Rattle.std.specs.List.{position_or_len}
use Rattle.std.proofs.lemmas.List.Sums.{prefix_len-le-length}
use Rattle.line_format.specs.Bytes.{space, minus, base, call_width, number_width}
use Rattle.line_format.specs.Columns.{is_digit, value_after, natural, trimmed, plain, negative, integer, natural_in, integer_in}
use Rattle.line_format.specs.Lines.{call_in}
use Rattle.line_parse.specs.columns.View.{view_option}

-- ── past the spaces ──
skipped : (l : List ℕ) → drop (position_or_len (λ b. not (eqb b space)) l) l ≡ trimmed l
skipped [] = refl
skipped (b ∷ l) =
    let n = position_or_len (λ b. not (eqb b space)) l in
    let e : 1 + n ≡ suc n = omega arith in
    by_case (eqb b space) (λ t. rw (t, e) (skipped l)) (λ t. rw t)

skipped_all : (l : List ℕ) → drop (unwrap_or (position (λ b. not (eqb b space)) l) (length l)) l ≡ trimmed l
skipped_all l =
    let n = position_or_len (λ b. not (eqb b space)) l in
    by_case (ltb n (length l)) (λ t. rw t (skipped l))
    (λ t.
    let q : length l ≡ n = omega (arith, ltb-false n (length l) t, prefix_len-le-length (λ b. not (not (eqb b space))) l) in
    rw (t, q) (skipped l))

pub past_all : (l : List ℕ) {r : P.Option ℕ} {n : ℕ} → r ≡ position (λ b. not (eqb b space)) l → n ≡ unwrap_or r (length l) → take (length l - n) (drop n l) ≡ trimmed l
past_all l {n = n} e f = take_all (length l - n) (drop n l) (simp length-drop (omega arith)) ∙ rw (f, e) (skipped_all l)

-- ── along the digits ──
-- the number that the digits of l make after n, if they are digits
abbrev pub after : ℕ → List ℕ → Option ℕ
after n l = cond (all is_digit l) (some (value_after n l)) none

-- before the last of at most twelve digits a value has at most eleven
pub small_before : (l : List ℕ) (i : ℕ) {value : ℕ} → value < base ^ i → i < length l → length l ≤ number_width → value < base ^ 11
small_before l i v h n =
    let k : i ≤ 11 = omega arith in
    let q : base ^ i ≤ base ^ 11 = pow-le-pow_right (lit< tt) k in
    omega arith

-- ── a number with its sign ──
minus_is : (n : ℕ) {r : P.Option ℤ} → n < base ^ number_width → r ≡ then_some (not (eqb n 0)) (to_z w64 (of_z w64 (pos 0 -ℤ to_z w64 n))) → view_option r ≡ negative (some n)
minus_is zero h e = rw e
minus_is (suc n) h e =
    let k : suc n < 2 ^ 63 = omega arith in
    let f : SFits w64 (negsuc n) = record { sfits = omega arith } in
    let o : suc n ≡ 0 → ⊥ = λ z. omega arith in
    rw (e, ne_eqb (suc n) 0 o, to_z_pos w64 k, +ℤ_idl (negsuc n), to_z-of_z f)

module _ (l : List ℕ) (n : ℕ) (h : length l ≤ number_width) (s : n < base ^ length l) where
  small : n < base ^ number_width
  small = let q : base ^ length l ≤ base ^ 12 = pow-le-pow_right (lit< tt) h in omega arith

  pub plain_fits : SFits w64 (pos n)
  plain_fits = let k = small in search rules

  pub minus_fits : SFits w64 (pos 0 -ℤ to_z w64 n)
  minus_fits = let k = small in search rules

  module _ (e : some n ≡ natural l) where
    pub plain_is : some (to_z w64 n) ≡ plain (natural l)
    plain_is = let k : n < 2 ^ 63 = omega (arith, small) in ap some (to_z_pos w64 k) ∙ ap plain e

    pub negative_is : {r : P.Option ℤ} → r ≡ then_some (not (eqb n 0)) (to_z w64 (of_z w64 (pos 0 -ℤ to_z w64 n))) → view_option r ≡ negative (natural l)
    negative_is f = minus_is n small f ∙ ap negative e

after_minus : (d : List ℕ) → 1 ≤ length d → get_or d 0 0 ≡ minus → negative (natural (take (length d - 1) (drop 1 d))) ≡ integer d
after_minus [] h b = absurd (omega arith)
after_minus (x ∷ m) h b = rw (b, take_all (length (x ∷ m) - 1) m (omega arith))

no_minus : (d : List ℕ) → 1 ≤ length d → (get_or d 0 0 ≡ minus → ⊥) → plain (natural d) ≡ integer d
no_minus [] h b = absurd (omega arith)
no_minus (x ∷ m) h b = rw (ne_eqb x minus b)

module _ (l : List ℕ) {d : List ℕ} (e : d ≡ trimmed l) where
  pub blank_integer : length d < 1 → none ≡ integer_in l
  unfolding integer_in
  blank_integer h = let q : length d ≤ 0 = omega arith in rw (← e) (ap integer (sym (drop_of_length-le d q)))

  module _ (h : 1 ≤ length d) {r : Option ℤ} where
    pub minus_integer : get_or d 0 0 ≡ minus → r ≡ negative (natural (take (length d - 1) (drop 1 d))) → r ≡ integer_in l
    unfolding integer_in
    minus_integer b q = q ∙ after_minus d h b ∙ ap integer e

    pub plain_integer : (get_or d 0 0 ≡ minus → ⊥) → r ≡ plain (natural d) → r ≡ integer_in l
    unfolding integer_in
    plain_integer b q = q ∙ no_minus d h b ∙ ap integer e

-- ── the columns of a line ──
pub past_none : (l : List ℕ) (at : ℕ) → length l < at → none ≡ integer_in (take number_width (drop at l))
unfolding integer_in
past_none l at h = let q : length l ≤ at = omega arith in rw (drop_of_length-le l q)

pub short_call : (l : List ℕ) → length l < call_width → none ≡ call_in l
short_call l h = rw (lt-ltb (length l) call_width h)

pub call_is : (l : List ℕ) {c d : List ℕ} {o : Option ℕ} → call_width ≤ length l → c ≡ take call_width l → d ≡ trimmed c → o ≡ natural d → o ≡ call_in l
unfolding natural_in
call_is l h e f g = g ∙ rw (f, e, le-ltb (length l) call_width h)
