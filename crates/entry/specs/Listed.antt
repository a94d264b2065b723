-- Calls that `run_all` runs are a list of calls as the demands speak of it: each of the calls, with the words lent to it, is an event, and the
-- plant left is the one that `run_all` gives. Its proof is proofs/Listed.
use Rattle.std.specs.Prelude.{ℕ, ◌≡◌, List, [], ◌∷◌, map, ℤ, take, drop}
use Rattle.plant.specs.declared.Plant.{Plant}
use Rattle.calls.specs.declared.Call.{Call}
use Rattle.entry.specs.declared.Told.{Told}
use Rattle.entry.specs.RanAll.{RanAll}
use Rattle.entry.specs.Demand3.{Event, Runs, left}

-- the words of each, n of them
abbrev pub shares : ℕ → List Told → List ℤ → List (List ℤ)
shares n [] words = []
shares n (t ∷ ts) words = take n words ∷ shares n ts (drop n words)

-- the calls, what was lent to each, what it was answered and the words that it left, in their order
pub record Events (n : ℕ) (p : Plant) (cs : List Call) (ts : List Told) (lent words : List ℤ) (q : Plant) : Type 0 where
  pub events : List Event
  pub calls : map (λ (e : Event). e.call) events ≡ cs
  pub lends : map (λ (e : Event). e.lent) events ≡ shares n ts lent
  pub answers : map (λ (e : Event). e.answer) events ≡ map (λ (t : Told). t.answer) ts
  pub fills : map (λ (e : Event). e.words) events ≡ shares n ts words
  pub runs : Runs p events
  pub leaves : left p events ≡ q

abbrev pub Listed : Type 0
Listed = (n : ℕ) (p : Plant) (cs : List Call) (ts : List Told) (lent words : List ℤ) (q : Plant) → RanAll n p cs ts lent words q → Events n p cs ts lent words q
