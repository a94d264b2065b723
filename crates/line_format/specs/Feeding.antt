-- An input that comes in pieces: the lines that byte 10 has ended so far, the line that is not ended yet, and what a piece does.
use Rattle.std.specs.Prelude.{ℕ, ◌≡◌, Bool, cond, List, [], ◌++◌, ◌∷◌, take, eqb}
use Rattle.rules.specs.Lists.{any, is_empty}
use Rattle.rules.specs.Tables.{Plant}
use Rattle.line_format.specs.Bytes.{newline, line_limit}
use Rattle.line_format.specs.Serving.{Serves}

abbrev pub has_end : List ℕ → Bool
has_end = any (λ b. eqb b newline)

-- one byte more at the front of the first line, if there is one
abbrev pub headed : ℕ → List (List ℕ) → List (List ℕ)
headed b [] = []
headed b (l ∷ ls) = (b ∷ l) ∷ ls

abbrev pub complete : List ℕ → List (List ℕ)
complete [] = []
complete (b ∷ l) = cond (eqb b newline) ([] ∷ complete l) (headed b (complete l))

-- what follows the last byte 10
abbrev pub unended : List ℕ → List ℕ
unended [] = []
unended (b ∷ l) = cond (has_end (b ∷ l)) (unended l) (b ∷ l)

-- the end of input ends a line that has begun
abbrev pub last_line : List ℕ → List (List ℕ)
last_line l = cond (is_empty l) [] (l ∷ [])

-- ── a piece ──
-- `kept` is what is kept of a line that has begun, and a piece comes after it: the lines that are ended now are served, and of the line
-- begun then the first bytes are kept
pub record Feeds (kept : List ℕ) (p : Plant) (piece out left : List ℕ) (q : Plant) : Type 0 where
  pub serves : Serves (complete (kept ++ piece)) p out q
  pub keeps : left ≡ take line_limit (unended (kept ++ piece))
