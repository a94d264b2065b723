-- How an input is cut into lines when it comes in pieces.
use Prim.Native.Nat.{ℕ}
use mathlib.Core.Path.{◌≡◌, ap, refl, sym}
use mathlib.Core.Bool.{cond, false, true, true≢false}
use mathlib.Core.List.{List, [], ◌++◌, ◌∷◌, append_assoc}
use lib.Dec.{eqb}
-- the worked lines come first: a definition that is off shows there before it shows in a law
use Rattle.line_format.proofs.Worked.{worked_lines}
use Rattle.rules.specs.Lists.{is_empty}
use Rattle.rules.proofs.Laws.{by_case}
use Rattle.line_format.specs.Bytes.{newline}
use Rattle.line_format.specs.Serving.{begun, lines_of}
use Rattle.line_format.specs.Feeding.{complete, has_end, headed, unended}

-- ── a piece without byte 10 ends no line ──
no_head : (b : ℕ) (l : List ℕ) → has_end (b ∷ l) ≡ false → (eqb b newline ≡ false) × (has_end l ≡ false)
no_head b l h = by_case (eqb b newline) (λ t. absurd (true≢false (rw t at h))) (λ t. (t, rw t at h))

pub complete_none : (l : List ℕ) → has_end l ≡ false → complete l ≡ []
complete_none [] h = refl
complete_none (b ∷ l) h = rw ((no_head b l h).0, complete_none l (no_head b l h).1)

pub unended_all : (l : List ℕ) → has_end l ≡ false → unended l ≡ l
unended_all [] h = refl
unended_all (b ∷ l) h = rw h

pub no_end_append : (xs ys : List ℕ) → has_end xs ≡ false → has_end ys ≡ false → has_end (xs ++ ys) ≡ false
no_end_append [] ys h k = k
no_end_append (b ∷ xs) ys h k = rw (no_head b xs h).0 (no_end_append xs ys (no_head b xs h).1 k)

end_append : (xs ys : List ℕ) → has_end xs ≡ true → has_end (xs ++ ys) ≡ true
end_append [] ys h = absurd (true≢false (sym h))
end_append (b ∷ xs) ys h = by_case (eqb b newline) (λ t. rw t) (λ t. rw t (end_append xs ys (rw t at h)))

end_here : (l rest : List ℕ) → has_end (l ++ (newline ∷ rest)) ≡ true
end_here [] rest = refl
end_here (b ∷ l) rest = by_case (eqb b newline) (λ t. rw t) (λ t. rw t (end_here l rest))

-- ── a line that byte 10 ends ──
pub complete_line : (l rest : List ℕ) → has_end l ≡ false → complete (l ++ (newline ∷ rest)) ≡ l ∷ complete rest
complete_line [] rest h = refl
complete_line (b ∷ l) rest h = rw ((no_head b l h).0, complete_line l rest (no_head b l h).1)

pub lines_line : (l rest : List ℕ) → has_end l ≡ false → lines_of (l ++ (newline ∷ rest)) ≡ l ∷ lines_of rest
lines_line [] rest h = refl
lines_line (b ∷ l) rest h = rw ((no_head b l h).0, lines_line l rest (no_head b l h).1)

pub unended_line : (l rest : List ℕ) → has_end l ≡ false → unended (l ++ (newline ∷ rest)) ≡ unended rest
unended_line [] rest h = refl
unended_line (b ∷ l) rest h = rw ((no_head b l h).0, end_here l rest) (unended_line l rest (no_head b l h).1)

-- ── a piece without byte 10, and one up to its first byte 10, after a line that is not ended ──
pub unended_no_end : (l : List ℕ) → has_end (unended l) ≡ false
unended_no_end [] = refl
unended_no_end (b ∷ l) = by_case (has_end (b ∷ l)) (λ t. rw t (unended_no_end l)) (λ t. rw t t)

module _ (u l : List ℕ) (h : has_end u ≡ false) (k : has_end l ≡ false) where
  pub more_complete : complete (u ++ l) ≡ []
  more_complete = complete_none (u ++ l) (no_end_append u l h k)

  pub more_unended : unended (u ++ l) ≡ u ++ l
  more_unended = unended_all (u ++ l) (no_end_append u l h k)

  pub end_complete : (rest : List ℕ) → complete (u ++ (l ++ (newline ∷ rest))) ≡ (u ++ l) ∷ complete rest
  end_complete rest = rw (← append_assoc u l (newline ∷ rest)) (complete_line (u ++ l) rest (no_end_append u l h k))

  pub end_unended : (rest : List ℕ) → unended (u ++ (l ++ (newline ∷ rest))) ≡ unended rest
  end_unended rest = rw (← append_assoc u l (newline ∷ rest)) (unended_line (u ++ l) rest (no_end_append u l h k))

-- ── one piece after another ──
first_line : (l : List ℕ) → has_end l ≡ true → (m : List ℕ) × ((ms : List (List ℕ)) × (complete l ≡ m ∷ ms))
first_line [] h = absurd (true≢false (sym h))
first_line (b ∷ l) h =
    by_case (eqb b newline)
    (λ t. ([], (complete l, rw t)))
    (λ t. let f = first_line l (rw t at h) in (b ∷ f.0, (f.1.0, rw (t, f.1.1))))

module _ (b : ℕ) (l : List ℕ) (ls : List (List ℕ)) (h : has_end l ≡ true) where
  headed_append : headed b (complete l ++ ls) ≡ headed b (complete l) ++ ls
  headed_append = rw (first_line l h).1.1

  begun_append : begun b (complete l ++ ls) ≡ headed b (complete l) ++ ls
  begun_append = rw (first_line l h).1.1

pub complete_append : (xs ys : List ℕ) → complete (xs ++ ys) ≡ complete xs ++ complete (unended xs ++ ys)
complete_append [] ys = refl
complete_append (b ∷ xs) ys =
    by_case (eqb b newline)
    (λ t. rw t (ap (λ ls. [] ∷ ls) (complete_append xs ys)))
    (λ t. by_case (has_end xs)
    (λ u. rw (t, u, complete_append xs ys) (headed_append b xs (complete (unended xs ++ ys)) u))
    (λ u. rw (t, u, complete_none xs u, t)))

pub unended_append : (xs ys : List ℕ) → unended (xs ++ ys) ≡ unended (unended xs ++ ys)
unended_append [] ys = refl
unended_append (b ∷ xs) ys =
    by_case (eqb b newline)
    (λ t. rw t (unended_append xs ys))
    (λ t. by_case (has_end xs)
    (λ u. rw (t, u, end_append xs ys u) (unended_append xs ys))
    (λ u. rw (t, u, t)))

-- ── at the end of input what is left is a line, unless it is empty ──
last_line_lem : (b : ℕ) (l : List ℕ) → begun b (cond (is_empty l) [] (l ∷ [])) ≡ (b ∷ l) ∷ []
last_line_lem b [] = refl
last_line_lem b (c ∷ l) = refl

pub lines_complete : (l : List ℕ) → lines_of l ≡ complete l ++ cond (is_empty (unended l)) [] (unended l ∷ [])
lines_complete [] = refl
lines_complete (b ∷ l) =
    by_case (eqb b newline)
    (λ t. rw t (ap (λ ls. [] ∷ ls) (lines_complete l)))
    (λ t. by_case (has_end l)
    (λ u. rw (t, u, lines_complete l) (begun_append b l (cond (is_empty (unended l)) [] (unended l ∷ [])) u))
    (λ u. rw (t, u, lines_complete l, complete_none l u, unended_all l u) (last_line_lem b l)))
