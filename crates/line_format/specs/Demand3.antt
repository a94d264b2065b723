-- Demand 3 of lines: lines served from set-up are a list of the rules' turns, those of the calls that they say; they leave the plant that these
-- leave, demand 3 holds after them, the cached keys stand in the order of the reads that cached them, no session was applied twice, the rows
-- stand in the order in which they were applied, and neither what reads show nor the store has a lot that was withdrawn. Its proof is
-- proofs/Demand3, from the rules' theorem.
use Rattle.std.specs.Prelude.{ℕ, ◌≡◌, true, List, [], ◌++◌, ◌∷◌, ℤ}
use Rattle.rules.specs.Lists.{is_once, InOrder}
use Rattle.rules.specs.Tables.{keys_of, Plant, setup}
use Rattle.rules.specs.History.{whole, Turn, turns, initial, left_by, exchanges}
use Rattle.rules.specs.Claims.{shown_to}
use Rattle.rules.specs.CacheOrder.{read_order}
use Rattle.rules.specs.RowOrder.{applied_order}
use Rattle.rules.specs.Demand3.{FirstPart, Holds}
use Rattle.rules.specs.Pulls.{LacksAll, loads_of, bookings}
use Rattle.line_format.specs.Lines.{Said, says, faulty, said}
use Rattle.line_format.specs.Serving.{lent_words, served}

-- a line that says a call is one turn; any other is none
abbrev pub turns_of_line : Said → List Turn
turns_of_line (says c) = record { call = c; lent = lent_words } ∷ []
turns_of_line (faulty r) = []

abbrev pub turns_of : List (List ℕ) → List Turn
turns_of [] = []
turns_of (l ∷ ls) = turns_of_line (said l) ++ turns_of ls

-- q is the plant that the lines leave
pub record Made (ls : List (List ℕ)) (q : Plant) : Type 0 where
  pub leaves : q ≡ left_by (turns_of ls)
  pub holds : Holds (turns (turns_of ls) initial)
  pub cache_order : InOrder (keys_of q.cache) (read_order (turns_of ls))
  pub applied_once : is_once (applied_order (turns_of ls)) ≡ true
  pub row_order : InOrder q.rows (applied_order (turns_of ls))
  pub reads_lack : (s : ℤ) → LacksAll (bookings (exchanges (turns_of ls) initial.plant) (turns (turns_of ls) initial).history s) (shown_to (turns (turns_of ls) initial).history s)
  pub store_lacks : (part : FirstPart (turns (turns_of ls) initial).history q.store) → LacksAll (loads_of (exchanges (turns_of ls) initial.plant) ++ whole part.done) q.store

abbrev pub LinesHold : Type 0
LinesHold = (ls : List (List ℕ)) → Made ls (served ls setup).plant
