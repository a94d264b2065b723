-- An example is compared: the bytes that the rules answer to its lines with those that stand beside them.
use Rattle.std.specs.Prelude.{ℕ, suc, ◌≡◌, Bool, cond, true, List, [], ◌∷◌, length, take, eqb, Result, Ok, Err, is_ok, IfErr}
use Rattle.rules.specs.Tables.{Plant, setup}
use Rattle.line_format.specs.Serving.{lines_of, Serves}

-- how many first bytes of two lists are the same
abbrev pub common : List ℕ → List ℕ → ℕ
common [] answers = 0
common (b ∷ came) [] = 0
common (b ∷ came) (a ∷ answers) = cond (eqb b a) (suc (common came answers)) 0

-- a test that is true where a fact holds, and nowhere else
abbrev pub Exactly : Bool → Type 0 → Type 0
Exactly b Fact = (b ≡ true → Fact) × (Fact → b ≡ true)

abbrev pub counted : Result ℕ ℕ → ℕ
counted (Ok at) = at
counted (Err at) = at

-- of the bytes that came: how many are the first of the answers, and whether all are
pub record Matches (answers came : List ℕ) (m : Result ℕ ℕ) : Type 0 where
  pub at : counted m ≡ common came answers
  pub same : Exactly (is_ok m) (came ≡ take (length came) answers)

-- what the lines are answered with, on a plant as it is set up: whether it is the answers, and where not, how many first bytes are
pub record Compared (lines answers : List ℕ) (r : Result Unit ℕ) : Type 0 where
  pub came : List ℕ
  pub plant : Plant
  pub serves : Serves (lines_of lines) setup came plant
  pub same : Exactly (is_ok r) (came ≡ answers)
  pub at : IfErr r (λ n. n ≡ common came answers)
