-- Demands 1 and 2 of lines, by what is printed: each line is answered by a line of its own, whose first columns tell whether it was refused. The
-- proof is proofs/Demands, from what the rules claim of calls.
use Rattle.std.specs.Prelude.{ℕ, ◌≡◌, ◌⊎◌, List, [], ◌∷◌, take, ℤ}
use Rattle.std.proofs.Math.Option.{Option, none, some}
use Rattle.rules.specs.Refusals.{Refusal, refusal_number, was_doomed, exclusive_elsewhere}
use Rattle.rules.specs.Values.{nat_of}
use Rattle.rules.specs.Tables.{Plant, setup}
use Rattle.rules.specs.Calls.{Call, Read, Commit, mark_number, Answer, refused, fine}
use Rattle.rules.specs.Effects.{mark}
use Rattle.rules.specs.Step.{session_of, ending}
use Rattle.rules.specs.History.{World, turns, initial}
use Rattle.rules.specs.Claims.{ShownBy}
use Rattle.line_format.specs.Bytes.{call_width}
use Rattle.line_format.specs.Columns.{natural_in}
use Rattle.line_format.specs.Lines.{Said, says, faulty, said, answer_line}
use Rattle.line_format.specs.Serving.{ended, serve, served, lines_of}
use Rattle.line_format.specs.Demand3.{turns_of_line}

-- ── what a printed line tells ──
-- the number in its first columns: 0, or the refusal's
abbrev pub first_number : List ℕ → Option ℕ
first_number o = natural_in (take call_width o)

abbrev pub IsAccepted : List ℕ → Type 0
IsAccepted o = first_number o ≡ some 0

abbrev pub IsRefused : Refusal → List ℕ → Type 0
IsRefused r o = first_number o ≡ some (refusal_number r)

-- no two refusals are printed alike, and none as an accepted call is
pub record AnswersDiffer : Type 0 where
  pub refusal : (a : Answer) (shown : List ℤ) (r : Refusal) → IsRefused r (answer_line a shown) → a ≡ refused r
  pub accepted : (a : Answer) (shown : List ℤ) → IsAccepted (answer_line a shown) → (ns : List ℕ) × (a ≡ fine ns)

-- ── a line ──
-- the plant without the session that a line names, if it names one
abbrev pub without_session : Said → Plant → Plant
without_session (says c) p = ending (session_of c) p
without_session (faulty r) p = p

-- an answered read prints its mark and the words of the starting stock with all committed sessions in commit order and then its own changes,
-- and no word past these
abbrev pub read_line : World → ℤ → ℤ → List ℕ
read_line w s k = answer_line (fine (mark_number (mark (nat_of s) (nat_of k) w.plant) ∷ [])) (ShownBy w.history s k [])

abbrev pub LeavesStore : Plant → Plant → Type 0
LeavesStore p q = (q.store ≡ p.store) × (q.rows ≡ p.rows)

-- w is what the lines before it left, o is printed, q is the plant left
pub record LineMeets (x : Said) (w : World) (o : List ℕ) (q : Plant) : Type 0 where
  pub tells : IsAccepted o ⊎ ((r : Refusal) × IsRefused r o)
  -- demand 1: a refused line leaves the plant, but for refusals 3 and 4, which end the session that met them and leave all else; a call without a
  -- session meets neither
  pub leaves : (r : Refusal) → IsRefused r o → (r ≡ was_doomed → ⊥) → (r ≡ exclusive_elsewhere → ⊥) → q ≡ w.plant
  pub three : IsRefused was_doomed o → q ≡ without_session x w.plant
  pub four : IsRefused exclusive_elsewhere o → q ≡ without_session x w.plant
  pub names : (c : Call) → x ≡ says c → session_of c ≡ none → (IsRefused was_doomed o → ⊥) × (IsRefused exclusive_elsewhere o → ⊥)
  -- demand 2
  pub shows : (s k : ℤ) → x ≡ says (Read s k) → IsAccepted o → o ≡ read_line w s k
  pub commits : (s : ℤ) → x ≡ says (Commit s) → LeavesStore w.plant q

-- ── lines ──
-- the world that a line leaves
abbrev pub line_leaves : Said → World → World
line_leaves x w = turns (turns_of_line x) w

-- lines, and as many printed
abbrev pub Meets : List (List ℕ) → World → List (List ℕ) → Plant → Type 0
Meets [] w os q = (os ≡ []) × (q ≡ w.plant)
Meets (l ∷ ls) w [] q = ⊥
Meets (l ∷ ls) w (o ∷ os) q =
    (ended o ≡ (serve l w.plant).bytes) × (LineMeets (said l) w o (line_leaves (said l) w).plant × Meets ls (line_leaves (said l) w) os q)

abbrev pub LinesMeet : Type 0
LinesMeet = (ls : List (List ℕ)) → Meets ls initial (lines_of (served ls setup).bytes) (served ls setup).plant
