-- What a line does, what an input does, and how an input is cut into lines.
use Rattle.std.specs.Prelude.{◌*◌, ℕ, ◌≡◌, cond, List, [], ◌++◌, ◌∷◌, length, replicate, take, eqb, pos, ℤ}
use Rattle.rules.specs.Limits.{key_count, place_limit, words_per_field}
use Rattle.rules.specs.Values.{below, nat_of, Place}
use Rattle.rules.specs.Tables.{Plant}
use Rattle.rules.specs.Calls.{Call, Load, Map, Begin, Read, Change, Commit, Abandon, Advance, Take, Apply, Delete, Cut, Sweep, Store, Report, refused, Result}
use Rattle.rules.specs.Step.{step}
use Rattle.line_format.specs.Bytes.{newline}
use Rattle.line_format.specs.Lines.{Said, says, faulty, said, answer_line}

-- ── a line ──
-- the bytes answered, and the plant left
pub record Served : Type 0 where
  pub bytes : List ℕ
  pub plant : Plant

-- a line lends the words of the longest key
abbrev pub lent_words : List ℤ
lent_words = replicate (words_per_field * place_limit) (pos 0)

-- the places that a read shows, each by eight words; other calls show none
abbrev pub places_shown : Call → (ℕ → List Place) → ℕ
places_shown (Load d f k v) keys = 0
places_shown (Map k n m) keys = 0
places_shown Begin keys = 0
places_shown (Read s k) keys = cond (below k key_count) (length (keys (nat_of k))) 0
places_shown (Change s d f k v) keys = 0
places_shown (Commit s) keys = 0
places_shown (Abandon s) keys = 0
places_shown (Advance n) keys = 0
places_shown (Take w) keys = 0
places_shown (Apply w fate) keys = 0
places_shown (Delete w) keys = 0
places_shown (Cut w) keys = 0
places_shown Sweep keys = 0
places_shown (Store n) keys = 0
places_shown (Report s) keys = 0

abbrev pub ended : List ℕ → List ℕ
ended l = l ++ (newline ∷ [])

abbrev pub replied : Call → Plant → Result → Served
replied c p r = record { bytes = ended (answer_line r.answer (take (words_per_field * places_shown c p.keys) r.words)); plant = r.plant }

abbrev pub performed : Said → Plant → Served
performed (says c) p = replied c p (step c lent_words p)
performed (faulty r) p = record { bytes = ended (answer_line (refused r) []); plant = p }

unfoldable pub serve : List ℕ → Plant → Served
serve l p = performed (said l) p

-- ── an input ──
abbrev pub begun : ℕ → List (List ℕ) → List (List ℕ)
begun b [] = (b ∷ []) ∷ []
begun b (l ∷ ls) = (b ∷ l) ∷ ls

-- byte 10 ends a line, or the end of input; no line follows a last byte 10
abbrev pub lines_of : List ℕ → List (List ℕ)
lines_of [] = []
lines_of (b ∷ l) = cond (eqb b newline) ([] ∷ lines_of l) (begun b (lines_of l))

-- lines served one after the other
abbrev pub served : List (List ℕ) → Plant → Served
served [] p = record { bytes = []; plant = p }
served (l ∷ ls) p = record { bytes = (serve l p).bytes ++ (served ls (serve l p).plant).bytes; plant = (served ls (serve l p).plant).plant }

-- out is what they answer, and q what they leave
abbrev pub Serves : List (List ℕ) → Plant → List ℕ → Plant → Type 0
Serves ls p out q = record { bytes = out; plant = q } ≡ served ls p
