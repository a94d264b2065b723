-- A number written in columns that hold it is read back as it was.
use mathlib.Core.Path.{◌≡◌, refl, sym, ◌∙◌, ap}
use mathlib.Core.Bool.{Bool, true, false, cond, not, true≢false}
use mathlib.Core.Option.{some}
use mathlib.Core.List.{List, [], ◌∷◌, ◌++◌, append_assoc}
use Prim.Native.Nat.{ℕ, zero, suc, ◌+◌, ◌-◌, ◌*◌, ◌/◌, ◌%◌, ◌^◌, ◌<◌}
use native.Mathlib.Nat.{pow-suc}
use native.Mathlib.Omega.{arith}
use lib.Dec.{eqb, leb, ltb}
use lib.IntN.{ℤ, pos, negsuc}
use lib.ListN.{replicate}
use borrow.Author.Tests.{le-leb, ne_eqb, ltb-true, ltb-false, leb-true}
use Rattle.rules.specs.Lists.{all}
use Rattle.rules.proofs.Laws.{by_case, both, and_true}
use Rattle.line_format.specs.Bytes.{space, minus, digit_zero, digit_nine, base}
use Rattle.line_format.specs.Columns.{is_digit, are_digits, value_after, natural, plain, negative, integer, trimmed, integer_in, before, digits_in, column}
use Rattle.line_format.proofs.Widths.{spaces}

-- ── without the spaces before ──
trimmed_last : (l : List ℕ) (d : ℕ) → (d ≡ space → ⊥) → trimmed (l ++ (d ∷ [])) ≡ trimmed l ++ (d ∷ [])
trimmed_last [] d n = rw (ne_eqb d space n) refl
trimmed_last (b ∷ l) d n = by_case (eqb b space) (λ t. rw (t) (trimmed_last l d n)) (λ t. rw (t) refl)

trimmed-spaces : (w : ℕ) → trimmed (replicate w space) ≡ []
trimmed-spaces zero = refl
trimmed-spaces (suc w) = trimmed-spaces w

-- the minus, if any
abbrev sign_of : Bool → List ℕ
sign_of s = cond s (minus ∷ []) []

trimmed-before : (s : Bool) (w : ℕ) → (s ≡ true → 0 < w) → trimmed (before s w) ≡ sign_of s
trimmed-before true zero h = let k = h refl in absurd (omega arith)
trimmed-before true (suc w) h = trimmed_last (replicate w space) minus (λ e. omega arith) ∙ rw (trimmed-spaces w) refl
trimmed-before false w h = rw (spaces w) (trimmed-spaces w)

-- ── the digits of a number that is not 0 ──
abbrev leads : List ℕ → Bool
leads [] = false
leads (b ∷ l) = not (eqb b digit_zero)

record Digits (n : ℕ) (ds : List ℕ) : Type 0 where
  pub every : all is_digit ds ≡ true
  pub led : leads ds ≡ true
  pub value : value_after 0 ds ≡ n

digit_is : (d : ℕ) → d < base → is_digit (digit_zero + d) ≡ true
digit_is d h = both _ _ (le-leb 48 (48 + d) (omega arith)) (le-leb (48 + d) 57 (omega arith))

one_digit : (n : ℕ) → 0 < n → n < base → Digits n ((digit_zero + n) ∷ [])
one_digit n h k = record { every = both _ _ (digit_is n k) refl; led = rw (ne_eqb (48 + n) 48 (λ e. omega arith)) refl; value = omega arith }

all_last : (ds : List ℕ) (x : ℕ) → all is_digit ds ≡ true → is_digit x ≡ true → all is_digit (ds ++ (x ∷ [])) ≡ true
all_last [] x h k = both _ _ k refl
all_last (b ∷ ds) x h k = let p = and_true (is_digit b) (all is_digit ds) h in both _ _ p.0 (all_last ds x p.1 k)

leads_last : (ds : List ℕ) (x : ℕ) → leads ds ≡ true → leads (ds ++ (x ∷ [])) ≡ true
leads_last [] x h = absurd (true≢false (sym h))
leads_last (b ∷ ds) x h = h

value_last : (n : ℕ) (ds : List ℕ) (x : ℕ) → value_after n (ds ++ (x ∷ [])) ≡ value_after n ds * base + (x - digit_zero)
value_last n [] x = refl
value_last n (b ∷ ds) x = value_last (n * base + (b - digit_zero)) ds x

more_digits : {m : ℕ} {ds : List ℕ} (n d : ℕ) → Digits m ds → d < base → n ≡ m * base + d → Digits n (ds ++ ((digit_zero + d) ∷ []))
more_digits {m} {ds} n d t h e =
    let v = t.value in
    record {
      every = all_last ds (digit_zero + d) t.every (digit_is d h);
      led = leads_last ds (digit_zero + d) t.led;
      value = value_last 0 ds (digit_zero + d) ∙ omega arith;
    }

digits_are : {n : ℕ} (ds : List ℕ) → Digits n ds → are_digits ds ≡ true
digits_are [] t = absurd (true≢false (sym t.led))
digits_are (b ∷ []) t = (and_true (is_digit b) true t.every).0
digits_are (b ∷ c ∷ l) t = let p = and_true (is_digit b) (all is_digit (c ∷ l)) t.every in both _ _ (both _ _ p.0 t.led) p.1

-- a column is left for the minus
minus_fits : (w n : ℕ) → 0 < n → n * base < base ^ suc w → 0 < w
minus_fits zero n h k = absurd (omega arith)
minus_fits (suc w) n h k = omega arith

-- ── columns that hold a number show its digits after its sign ──
shown : (s : Bool) (w n : ℕ) → 0 < n → n < base ^ w → (s ≡ true → n * base < base ^ w) → (ds : List ℕ) × ((trimmed (digits_in s w n) ≡ sign_of s ++ ds) × Digits n ds)
shown s zero n h k m = absurd (omega arith)
shown s (suc w) n h k m =
    let q = pow-suc base w in
    let d : digit_zero + n % base ≡ space → ⊥ = λ e. omega arith in
    let last : (l : List ℕ) → trimmed (l ++ ((digit_zero + n % base) ∷ [])) ≡ trimmed l ++ ((digit_zero + n % base) ∷ []) = λ l. trimmed_last l (digit_zero + n % base) d in
    by_case (ltb n base)
    (λ t.
    let e : n % base ≡ n = (let u = ltb-true n base t in omega arith) in (
      (digit_zero + n) ∷ [],
      (rw t (last (before s w) ∙ rw (trimmed-before s w (λ j. minus_fits w n h (m j)), e) refl), one_digit n h (ltb-true n base t)),
    ))
    (λ t.
    let u = ltb-false n base t in
    let r = shown s w (n / base) (omega arith) (omega arith) (λ j. let v = m j in omega arith) in (
      r.0 ++ ((digit_zero + n % base) ∷ []),
      (rw t (last (digits_in s w (n / base)) ∙ rw r.1.0 (append_assoc (sign_of s) r.0 ((digit_zero + n % base) ∷ []))), more_digits n (n % base) r.1.1 (omega arith) (omega arith)),
    ))

-- ── reading them ──
-- w columns hold it, with its sign: twelve hold -99,999,999,999 to 999,999,999,999
abbrev pub Holds : ℕ → ℤ → Type 0
Holds w (pos n) = n < base ^ w
Holds w (negsuc n) = suc n * base < base ^ w

reads : {n : ℕ} (ds : List ℕ) → Digits n ds → natural ds ≡ some n
reads ds t = rw (digits_are ds t, t.value) refl

no_minus : {n : ℕ} (ds : List ℕ) → Digits n ds → integer ds ≡ plain (natural ds)
no_minus [] t = absurd (true≢false (sym t.led))
no_minus (b ∷ l) t =
    let p = (and_true (is_digit b) (all is_digit l) t.every).0 in
    let k = leb-true digit_zero b (and_true (leb digit_zero b) (leb b digit_nine) p).0 in
    rw (ne_eqb b minus (λ e. omega arith)) refl

pub read_back : (w : ℕ) (z : ℤ) → Holds (suc w) z → integer_in (column (suc w) z) ≡ some z
unfolding integer_in column
read_back w (pos zero) h =
    let p : trimmed (before false w ++ (digit_zero ∷ [])) ≡ digit_zero ∷ [] = trimmed_last (before false w) digit_zero (λ e. omega arith) ∙ rw (trimmed-before false w (λ j. absurd (true≢false (sym j)))) refl in
    ap integer p
read_back w (pos (suc n)) h =
    let r = shown false (suc w) (suc n) (omega arith) h (λ j. absurd (true≢false (sym j))) in
    ap integer r.1.0 ∙ no_minus r.0 r.1.1 ∙ ap plain (reads r.0 r.1.1)
read_back w (negsuc n) h =
    let r = shown true (suc w) (suc n) (omega arith) (omega arith) (λ j. h) in
    ap integer r.1.0 ∙ ap negative (reads r.0 r.1.1)
