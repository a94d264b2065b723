-- What is printed: of any plant, which bytes they are; and on a plant that keeps the tables' rules, that they and the plant left are those that
-- the format says.
use Rattle.std.specs.Prelude.{◌*◌, ◌≤◌, ℕ, ◌≡◌, true, List, [], ◌∷◌, ◌++◌, ℤ, drop, length, take}
use Rattle.rules.specs.Limits.{words_per_field, place_limit}
use Rattle.rules.specs.Calls.{refused}
use Rattle.line_format.specs.Lines as L
use Rattle.line_format.specs.Serving.{ended, performed}
use Rattle.plant.specs.View.{view_plant, kept_plant}
use Rattle.plant.specs.declared.Plant.{Plant}
use Rattle.answers.specs.View.{view_answer, view_refusal}
use Rattle.answers.specs.declared.Refusal as R
use Rattle.entry.specs.declared.Told.{Told}

-- the bytes answered to what a line says, and the plant left
pub record Answered (said : L.Said) (p : Plant) (bytes : List ℕ) (q : Plant) : Type 0 where
  pub prints : bytes ≡ (performed said (view_plant p)).bytes
  pub leaves : view_plant q ≡ (performed said (view_plant p)).plant
  pub keeps : kept_plant q ≡ true

-- ── of any plant, whether it keeps the tables' rules or not ──
-- bytes at the front of those lent, no more than there may be; those past them are as they were
pub record Put (most : ℕ) (bytes lent out : List ℕ) (len : ℕ) : Type 0 where
  pub prints : out ≡ bytes ++ drop len lent
  pub counts : len ≡ length bytes
  pub few : len ≤ most

-- the line of what a call was told, with those of its words that it shows
abbrev pub told_line : Told → List ℤ → List ℕ
told_line t words = ended (L.answer_line (view_answer t.answer) (take t.shown words))

-- to each of them were lent the words of the longest key
abbrev pub line_words : ℕ
line_words = words_per_field * place_limit

abbrev pub told_lines : List Told → List ℤ → List ℕ
told_lines [] words = []
told_lines (t ∷ ts) words = told_line t (take line_words words) ++ told_lines ts (drop line_words words)

-- and the line for a line that says no call
abbrev pub refused_line : R.Refusal → List ℕ
refused_line r = ended (L.answer_line (refused (view_refusal r)) [])
