-- The numbers of a line, one after the other.
use Prim.Native.Nat.{ℕ, zero, suc, ◌+◌, ◌-◌, ◌*◌, ◌≤◌, ◌<◌, ◌^◌}
use native.Mathlib.Omega.{arith}
use mathlib.Core.Path.{◌≡◌, refl, sym, ◌∙◌, ap}
use mathlib.Core.Option.{Option, none, some}
use mathlib.Core.List.{List, [], ◌∷◌, ◌++◌}
use lib.ListN.{length, take, drop, set, length-set, length-drop, drop_of_length-le}
use lib.Seq.{drop-drop, take-suc-set}
use lib.Dec.{ltb}
use lib.IntN.{ℤ}
use lib.Signed.{mag}
use mir.Syntax.{w64}
use mir.Val.{SFits, to_z, of_z}
use mir.Facts.{to_z-of_z}
use borrow.Author.Rules.{sfits_of}
use native.Mathlib.Numerals.{add-one}
use borrow.Author.Tests.{le-ltb, ltb-false}
use Rattle.rules.proofs.Laws.{by_case}
use Rattle.line_format.specs.Bytes.{call_width, most_numbers, number_width}
use Rattle.line_format.specs.Columns.{integer_in}
use Rattle.line_format.specs.Lines.{joined, numbers_in}

joined-none : (z : Option ℤ) → joined z none ≡ none
joined-none none = refl
joined-none (some z) = refl

wrong_length : (n : ℕ) (l : List ℕ) → (length l ≡ n * number_width → ⊥) → numbers_in n l ≡ none
wrong_length zero [] h = absurd (h refl)
wrong_length zero (b ∷ l) h = refl
wrong_length (suc n) l h =
    by_case (ltb (length l) number_width) (λ t. rw t)
    (λ t.
    let q : length (drop number_width l) ≡ n * number_width → ⊥ = λ e. h (omega (arith, ltb-false (length l) number_width t, length-drop number_width l)) in
    rw (t, wrong_length n (drop number_width l) q) (joined-none (integer_in (take number_width l))))

pub collect_wrong : (l : List ℕ) (k : ℕ) → call_width ≤ length l → (length l ≡ call_width + k * number_width → ⊥) → none ≡ numbers_in k (drop call_width l)
collect_wrong l k h o = sym (wrong_length k (drop call_width l) (λ e. o (omega (arith, length-drop call_width l))))

-- values before those that are still to be read
abbrev pub prefixed : List ℤ → Option (List ℤ) → Option (List ℤ)
prefixed [] o = o
prefixed (z ∷ l) o = joined (some z) (prefixed l o)

prefixed-none : (l : List ℤ) → prefixed l none ≡ none
prefixed-none [] = refl
prefixed-none (z ∷ l) = rw (prefixed-none l)

prefixed_all : (l : List ℤ) → prefixed l (some []) ≡ some l
prefixed_all [] = refl
prefixed_all (z ∷ l) = rw (prefixed_all l)

prefixed_snoc : (l : List ℤ) (z : ℤ) (o : Option (List ℤ)) → prefixed (l ++ (z ∷ [])) o ≡ prefixed l (joined (some z) o)
prefixed_snoc [] z o = refl
prefixed_snoc (y ∷ l) z o = ap (joined (some y)) (prefixed_snoc l z o)

-- of k numbers after the call column the first i are read
pub record Collecting (line : List ℕ) (k : ℕ) (vs : List ℤ) (i : ℕ) : Type 0 where
  pub long : length vs ≡ most_numbers
  pub rest : numbers_in k (drop call_width line) ≡ prefixed (take i vs) (numbers_in (k - i) (drop (call_width + i * number_width) line))

pub collect_start : (line : List ℕ) (k : ℕ) (vs : List ℤ) → length vs ≡ most_numbers → Collecting line k vs 0
collect_start line k vs l = let z : k - 0 ≡ k = omega arith in record { long = l; rest = rw z }

module _ {line : List ℕ} {k : ℕ} {vs : List ℤ} {i : ℕ} (inv : Collecting line k vs i) (w : length line ≡ call_width + k * number_width) where
  module _ (h : i < k) where
    -- the next number and those after it
    next : numbers_in (k - i) (drop (call_width + i * number_width) line) ≡ joined (integer_in (take number_width (drop (call_width + i * number_width) line))) (numbers_in (k - (i + 1)) (drop (call_width + (i + 1) * number_width) line))
    next =
        let e : k - i ≡ suc (k - (i + 1)) = omega arith in
        let n : number_width ≤ length (drop (call_width + i * number_width) line) = simp length-drop (omega arith) in
        let d : call_width + i * number_width + number_width ≡ call_width + (i + 1) * number_width = omega arith in
        rw (e, le-ltb (length (drop (call_width + i * number_width) line)) number_width n, drop-drop number_width (call_width + i * number_width) line, d)

    pub collect_broken : none ≡ integer_in (take number_width (drop (call_width + i * number_width) line)) → none ≡ numbers_in k (drop call_width line)
    collect_broken e = sym (inv.rest ∙ rw (next, ← e) (prefixed-none (take i vs)))

    pub collect_next : (z : ℤ) → mag z < 2 ^ 63 → k ≤ most_numbers → some z ≡ integer_in (take number_width (drop (call_width + i * number_width) line)) → Collecting line k (set vs i (to_z w64 (of_z w64 z))) (i + 1)
    collect_next z b f e =
        let s : SFits w64 z = sfits_of b in
        let m : i < length vs = omega (arith, inv.long) in
        rw (to_z-of_z s)
        record { long = length-set vs i z ∙ inv.long; rest = inv.rest ∙ rw (next, ← e, add-one i, take-suc-set vs i z m) (sym (prefixed_snoc (take i vs) z _)) }

  pub collect_end : i ≡ k → some (take k vs) ≡ numbers_in k (drop call_width line)
  collect_end e =
      let z : k - i ≡ 0 = omega arith in
      let q : length line ≤ call_width + i * number_width = omega arith in
      sym (inv.rest ∙ rw (z, drop_of_length-le line q, e) (prefixed_all (take k vs)))
