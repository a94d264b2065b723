-- What a line says, and so what it does, is told by its first bytes: whoever reads lines need keep no more of one than `line_limit`.
use Prim.Native.Nat.{◌*◌, ◌+◌, ◌-◌, ◌≤◌, suc, zero, ℕ}
use native.Mathlib.Nat.{suc-add, zero-add}
use native.Mathlib.Numerals.{add-one}
use native.Mathlib.Omega.{arith}
use mathlib.Core.Path.{◌≡◌, ◌∙◌, ap, refl}
use mathlib.Core.Option.{Option, none, some}
use mathlib.Core.List.{List, [], ◌∷◌}
use lib.ListN.{drop, length, length-take, take}
use lib.Seq.{take-nil, take-take}
use lib.Dec.{ltb}
use borrow.Author.Tests.{le-ltb, lt-ltb, ltb-false, ltb-true}
-- the worked lines come first: a definition that is off shows there before it shows in a law
use Rattle.rules.specs.Lists.{case_of}
use Rattle.rules.specs.Tables.{Plant}
use Rattle.rules.proofs.Laws.{by_case}
use Rattle.line_format.specs.Bytes.{call_width, line_limit, most_numbers, number_width}
use Rattle.line_format.specs.Lines.{Name, abandons, advances, applies, arity, begins, call_in, changes, commits, cuts, deletes, loads, maps, name_number, names, numbers_in, reads, reports, said, stores, sweeps, takes, with_call}
use Rattle.line_format.specs.Serving.{performed, serve}

-- ── the first k bytes of a line: whether it has m, and those after n ──
short_less : (m k : ℕ) (l : List ℕ) → m ≤ k → ltb (length (take k l)) m ≡ ltb (length l) m
short_less m k l h =
    by_case (ltb (length l) m)
    (λ t. let u = ltb-true (length l) m t in rw t (lt-ltb (length (take k l)) m (rw (length-take k l) (omega arith))))
    (λ t. let u = ltb-false (length l) m t in rw t (le-ltb (length (take k l)) m (rw (length-take k l) (omega arith))))

drop-short : (n k : ℕ) (l : List ℕ) → drop n (take (n + k) l) ≡ take k (drop n l)
drop-short zero k l = rw (zero-add k)
drop-short (suc n) k [] = rw (take-nil k, take-nil (suc n + k))
drop-short (suc n) k (b ∷ l) = rw (suc-add n k) (drop-short n k l)

-- one byte past n numbers tells that there are more
short_numbers : (n k : ℕ) (l : List ℕ) → n * number_width ≤ k → numbers_in n (take (k + 1) l) ≡ numbers_in n l
short_numbers zero k [] h = rw (add-one k)
short_numbers zero k (b ∷ l) h = rw (add-one k)
short_numbers (suc n) k l h =
    let e : k + 1 ≡ number_width + (k - number_width + 1) = omega arith in
    rw (short_less number_width (k + 1) l (omega arith), take-take number_width (k + 1) l (omega arith), e, drop-short number_width (k - number_width + 1) l, short_numbers n (k - number_width) (drop number_width l) (omega arith))

-- ── a line ──
few : (c : Name) → arity c ≤ most_numbers
few loads = omega arith
few maps = omega arith
few begins = omega arith
few reads = omega arith
few changes = omega arith
few commits = omega arith
few abandons = omega arith
few advances = omega arith
few takes = omega arith
few applies = omega arith
few deletes = omega arith
few cuts = omega arith
few sweeps = omega arith
few stores = omega arith
few reports = omega arith

short_call : (l : List ℕ) → call_in (take line_limit l) ≡ call_in l
short_call l = rw (short_less call_width line_limit l (omega arith), take-take call_width line_limit l (omega arith))

short_rest : (o : Option ℕ) (l : List ℕ) → with_call o (take (most_numbers * number_width + 1) l) ≡ with_call o l
short_rest none l = refl
short_rest (some n) l =
    let c = case_of name_number begins names n in
    rw (short_numbers (arity c) (most_numbers * number_width) l (omega (arith, few c)))

pub short : (l : List ℕ) → said (take line_limit l) ≡ said l
unfolding said
short l =
    ap (λ o. with_call o (drop call_width (take line_limit l))) (short_call l)
    ∙ ap (with_call (call_in l)) (drop-short call_width (most_numbers * number_width + 1) l)
    ∙ short_rest (call_in l) (drop call_width l)

pub short-serve : (l : List ℕ) (p : Plant) → serve (take line_limit l) p ≡ serve l p
unfolding serve
short-serve l p = ap (λ s. performed s p) (short l)
