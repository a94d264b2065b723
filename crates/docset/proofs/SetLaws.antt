-- Sets of documents by their digits: one document more or less, a union, the count, the lowest; and the digits decide the set.
use Prim.Native.Nat.{◌%◌, ◌*◌, ◌+◌, ◌-◌, ◌/◌, ◌<◌, ◌^◌, ◌≤◌, suc, zero, ℕ}
use native.Mathlib.Nat.{div-eq_of_lt, lt_of_lt_of_le, one-mul, pow-suc, zero-add}
use native.Mathlib.Omega.{arith}
use mathlib.Core.Path.{◌≡◌, ◌∙◌, ap, fun_ext, refl, subst, sym}
use mathlib.Core.Bool.{Bool, ◌||◌, cond, false, not, true, true≢false}
use lib.Bits.{bit_or, bit_xor, or_mod, or_shr, xor_mod, xor_shr}
use lib.Count.{ones, ones-le, ones_step, trailing_le, count_trailing_zeros}
use lib.Dec.{eqb, lit<, ltb}
use lib.Pow.{pow-add, pow-lt, pow_mono, pow_pos, shl_exact, shl-shr, shr-shr}
use mir.Syntax.{w8}
use mir.Val.{Fits}
use borrow.Author.Tests.{eqb-false, eqb-true, lt-ltb, le-ltb, ltb-false, ltb-true}
use Rattle.rules.specs.Lists.{from, override, span}
use Rattle.rules.specs.Limits.{document_count}
use Rattle.rules.specs.Tables.{documents}
use Rattle.rules.specs.Step.{count}
use Rattle.rules.proofs.Laws.{by_case, or_one, or_zero_lem}
use Rattle.docset.specs.Sets.{docs}

-- a digit is 0 or 1
by_digit : {P : Type 0} (n : ℕ) → (n % 2 ≡ 0 → P) → (n % 2 ≡ 1 → P) → P
by_digit {P} n f g = go (n % 2) (omega arith) f g
  where
    go : (m : ℕ) → m < 2 → (m ≡ 0 → P) → (m ≡ 1 → P) → P
    go zero h f g = f refl
    go (suc zero) h f g = g refl
    go (suc (suc m)) h f g = absurd (omega arith)

by_digits : (P : ℕ → ℕ → Type 0) → P 0 0 → P 0 1 → P 1 0 → P 1 1 → (a b : ℕ) → P (a % 2) (b % 2)
by_digits P p q r s a b = by_digit a (λ x. by_digit b (λ y. rw (x, y) p) (λ y. rw (x, y) q)) (λ x. by_digit b (λ y. rw (x, y) r) (λ y. rw (x, y) s))

-- ── the digits of one document's set ──
one_here : (d : ℕ) → 1 * 2 ^ d / 2 ^ d % 2 ≡ 1
one_here d = ap (λ (n : ℕ). n % 2) (shl-shr 1 d)

one_above : (d e : ℕ) → d < e → 1 * 2 ^ d / 2 ^ e % 2 ≡ 0
one_above d e h =
    let p : 2 ^ d < 2 ^ e = pow-lt h in
    let q : 1 * 2 ^ d < 2 ^ e = rw (one-mul (2 ^ d)) p in
    ap (λ (n : ℕ). n % 2) (div-eq_of_lt q)

one_below : (d e : ℕ) → e < d → 1 * 2 ^ d / 2 ^ e % 2 ≡ 0
one_below d e h =
    let a : d ≡ suc (d - suc e) + e = omega arith in
    let b : 1 * 2 ^ d ≡ 2 ^ suc (d - suc e) * 2 ^ e = one-mul (2 ^ d) ∙ ap (λ (n : ℕ). 2 ^ n) a ∙ pow-add 2 (suc (d - suc e)) e in
    let c : 1 * 2 ^ d / 2 ^ e ≡ 2 ^ suc (d - suc e) = ap (λ (n : ℕ). n / 2 ^ e) b ∙ shl-shr (2 ^ suc (d - suc e)) e in
    let f = pow-suc 2 (d - suc e) in
    rw c (omega arith)

one_other : (d e : ℕ) → (e ≡ d → ⊥) → 1 * 2 ^ d / 2 ^ e % 2 ≡ 0
one_other d e n =
    by_case (ltb d e)
    (λ t. one_above d e (ltb-true d e t))
    (λ t. let l = ltb-false d e t in one_below d e (omega (arith, n)))

single : (d e : ℕ) → docs (1 * 2 ^ d) e ≡ eqb e d
unfolding docs
single d e =
    by_case (eqb e d)
    (λ t. rw (t, eqb-true e d t, one_here d))
    (λ t. rw (t, one_other d e (eqb-false e d t)))

-- the shift that the code makes of 1 loses nothing
shifted : {d : ℕ} → d < 64 → 1 * 2 ^ d % 18446744073709551616 ≡ 1 * 2 ^ d
shifted {d} h = shl_exact {a = 1} 1 d 64 (lit< tt) (omega arith)

-- ── a set of 64 digits holds no document from 64 on ──
pub docs_past : (s d : ℕ) → s < 2 ^ 64 → 64 ≤ d → false ≡ docs s d
unfolding docs
docs_past s d h l =
    let p : s < 2 ^ d = lt_of_lt_of_le h (pow_mono l) in
    let q : s / 2 ^ d ≡ 0 = div-eq_of_lt p in
    sym (rw q refl)

pub docs_below : (s d : ℕ) {b : Bool} → s < 2 ^ 64 → b ≡ docs s d → b ≡ true → d < 64
docs_below s d h e t =
    by_case (ltb d 64) (ltb-true d 64) (λ u. absurd (true≢false (sym t ∙ e ∙ sym (docs_past s d h (ltb-false d 64 u)))))

pub docs_none : docs 0 ≡ (λ d. false)
unfolding docs
docs_none = fun_ext (λ d. let p : 0 < 2 ^ d = pow_pos d in let q : 0 / 2 ^ d ≡ 0 = div-eq_of_lt p in rw q refl)

-- ── digits put together ──
pub or_is : (s t d : ℕ) → docs (bit_or s t) d ≡ docs s d || docs t d
unfolding docs
or_is s t d =
    ap (λ n. eqb (n % 2) 1) (or_shr s t d)
    ∙ ap (λ n. eqb n 1) (or_mod (s / 2 ^ d) (t / 2 ^ d) 1)
    ∙ by_digits (λ a b. eqb (bit_or a b) 1 ≡ eqb a 1 || eqb b 1) refl refl refl refl (s / 2 ^ d) (t / 2 ^ d)

xor_is : (s t d : ℕ) → docs (bit_xor s t) d ≡ cond (docs t d) (not (docs s d)) (docs s d)
unfolding docs
xor_is s t d =
    ap (λ n. eqb (n % 2) 1) (xor_shr s t d)
    ∙ ap (λ n. eqb n 1) (xor_mod (s / 2 ^ d) (t / 2 ^ d) 1)
    ∙ by_digits (λ a b. eqb (bit_xor a b) 1 ≡ cond (eqb b 1) (not (eqb a 1)) (eqb a 1)) refl refl refl refl (s / 2 ^ d) (t / 2 ^ d)

-- ── one document more ──
pub with_is : (s d : ℕ) → d < 64 → docs (bit_or s (1 * 2 ^ d % 18446744073709551616)) ≡ override (docs s) d (ltb d document_count)
with_is s d h =
    ap (λ n. docs (bit_or s n)) (shifted h)
    ∙ fun_ext (λ e. or_is s (1 * 2 ^ d) e ∙ rw (single d e, lt-ltb d 64 h) (by_case (eqb e d) (λ t. rw t (or_one (docs s e))) (λ t. rw t (or_zero_lem (docs s e)))))

-- a function is not changed by the value that it has
override_same : (f : ℕ → Bool) (d : ℕ) (b : Bool) → f d ≡ b → f ≡ override f d b
override_same f d b q = fun_ext (λ e. by_case (eqb e d) (λ t. rw (t, eqb-true e d t) q) (λ t. rw t))

pub with_past : (s d : ℕ) → s < 2 ^ 64 → 64 ≤ d → docs s ≡ override (docs s) d (ltb d document_count)
with_past s d h l = override_same (docs s) d (ltb d 64) (sym (docs_past s d h l) ∙ sym (le-ltb d 64 l))

-- ── one document less ──
pub without_there : (s d : ℕ) {b : Bool} → d < 64 → b ≡ docs s d → b ≡ true → docs (bit_xor s (1 * 2 ^ d % 18446744073709551616)) ≡ override (docs s) d false
without_there s d h q t =
    ap (λ n. docs (bit_xor s n)) (shifted h)
    ∙ fun_ext (λ e. xor_is s (1 * 2 ^ d) e ∙ rw (single d e) (by_case (eqb e d) (λ u. rw (u, eqb-true e d u, ← q, t)) (λ u. rw u)))

pub without_none : (s d : ℕ) {b : Bool} → b ≡ docs s d → b ≡ false → docs s ≡ override (docs s) d false
without_none s d q t = override_same (docs s) d false (sym q ∙ t)

-- ── digit by digit, from the lowest: of s, those from d on are s / 2 ^ d ──
next_fits : (s d k : ℕ) → s / 2 ^ d < 2 ^ suc k → s / 2 ^ (d + 1) < 2 ^ k
next_fits s d k h = let e = pow-suc 2 k in let q : s / 2 ^ d / 2 < 2 ^ k = omega arith in rw (shr-shr s d 1) at q

all_digits : (s : ℕ) → s / 2 ^ 0 ≡ s
all_digits s = omega arith

ones-from : (s d k : ℕ) → s / 2 ^ d < 2 ^ k → ones (s / 2 ^ d) ≡ count (docs s) (span d k)
unfolding docs ones
ones-from s d zero h = let e : s / 2 ^ d ≡ 0 = omega arith in rw e refl
ones-from s d (suc k) h =
    ones_step (s / 2 ^ d)
    ∙ rw (shr-shr s d 1, ones-from s (d + 1) k (next_fits s d k h))
    (by_digit (s / 2 ^ d) (λ z. rw z (omega arith)) (λ z. rw z (omega arith)))

pub count_is : (s : ℕ) → s < 2 ^ 64 → ones s ≡ count (docs s) documents
unfolding documents
count_is s h = rw (all_digits s) at (ones-from s 0 64 (rw (all_digits s) h))

pub count_fits : (s : ℕ) → s < 2 ^ 64 → Fits w8 (ones s)
count_fits s h = record { fits = omega (arith, ones-le 64 s h) }

zeros_from : (s d k : ℕ) → d + count_trailing_zeros k (s / 2 ^ d) ≡ from (docs s) (λ e. e) (d + k) (span d k)
unfolding docs count_trailing_zeros
zeros_from s d zero = refl
zeros_from s d (suc k) =
    let next = zeros_from s (d + 1) k in
    let e : d + suc k ≡ d + 1 + k = omega arith in
    subst (λ n. d + count_trailing_zeros (suc k) (s / 2 ^ d) ≡ from (docs s) (λ e. e) n (span d (suc k))) (sym e)
    (rw (shr-shr s d 1)
    (by_digit (s / 2 ^ d) (λ z. rw z (omega arith)) (λ z. rw z (omega arith))))

pub lowest_is : (s : ℕ) → count_trailing_zeros 64 s ≡ from (docs s) (λ e. e) document_count documents
unfolding documents
lowest_is s = sym (zero-add (count_trailing_zeros 64 s)) ∙ (rw (all_digits s) at (zeros_from s 0 64))

pub lowest_fits : (s : ℕ) → Fits w8 (count_trailing_zeros 64 s)
lowest_fits s = record { fits = omega (arith, trailing_le 64 s) }

-- ── the digits decide the set ──
same_digit : (a b : ℕ) → eqb (a % 2) 1 ≡ eqb (b % 2) 1 → a % 2 ≡ b % 2
same_digit = by_digits (λ a b. eqb a 1 ≡ eqb b 1 → a ≡ b) (λ e. refl) (λ e. absurd (true≢false (sym e))) (λ e. absurd (true≢false e)) (λ e. refl)

same_from : (a b d k : ℕ) → a / 2 ^ d < 2 ^ k → b / 2 ^ d < 2 ^ k → docs a ≡ docs b → a / 2 ^ d ≡ b / 2 ^ d
unfolding docs
same_from a b d zero h l q = omega arith
same_from a b d (suc k) h l q =
    let e : a / 2 ^ d % 2 ≡ b / 2 ^ d % 2 = same_digit (a / 2 ^ d) (b / 2 ^ d) (ap (λ f. f d) q) in
    let n : a / 2 ^ d / 2 ≡ b / 2 ^ d / 2 = shr-shr a d 1 ∙ same_from a b (d + 1) k (next_fits a d k h) (next_fits b d k l) q ∙ sym (shr-shr b d 1) in
    omega arith

pub docs_decide : (a b : ℕ) → a < 2 ^ 64 → b < 2 ^ 64 → docs a ≡ docs b → a ≡ b
docs_decide a b h l q = sym (all_digits a) ∙ same_from a b 0 64 (rw (all_digits a) h) (rw (all_digits b) l) q ∙ all_digits b
