-- A sweep takes what it can, oldest rows first, of the code: what is claimed of calls that are run through the entry. Its proofs are
-- proofs/RowOrder, from the rules' theorem and the entry's promise alone.
use Rattle.std.specs.Prelude.{ℕ, ◌≡◌, true, List, [], ◌++◌, ◌∷◌, ℤ, Result}
use Rattle.rules.specs.Lists.{has, is_once, InOrder}
use Rattle.rules.specs.Tables as M
use Rattle.rules.specs.Calls as C
use Rattle.rules.specs.Conditions.{ever_begun}
use Rattle.rules.specs.Answers.{Carries, Sweeps}
use Rattle.rules.specs.RowOrder.{came, StandInOrder, TakesOldest}
use Rattle.plant.specs.View.{view_plant, kept_plant}
use Rattle.plant.specs.declared.Plant.{Plant}
use Rattle.answers.specs.View.{view_answer}
use Rattle.answers.specs.declared.Answer.{Answer}
use Rattle.answers.specs.declared.Refusal.{Refusal}
use Rattle.calls.specs.declared.Call.{Call}
use Rattle.calls.specs.declared.Call.TheVariants.{Sweep}
use Rattle.entry.specs.Ran.{Ran}
use Rattle.entry.specs.Demand3.{Event, Runs, left}

-- ── of one call, on every plant that keeps the tables' rules ──
-- an accepted sweep removes the first rows that may go, and answers their number: the smaller of 16 and all that may go
abbrev pub SweepTakes : Type 0
SweepTakes =
    (lent : List ℤ) (p : Plant) (a : Result Answer Refusal) (words : List ℤ) (q : Plant) → kept_plant p ≡ true → Ran Sweep lent p a words q
    → (ns : List ℕ) → view_answer a ≡ C.fine ns → (n : ℕ) × (ns ≡ n ∷ []) × Sweeps n (view_plant p) (view_plant q)

-- whatever the call: the rows left stand in their order, and one that came stands last
abbrev pub RowsInOrder : Type 0
RowsInOrder =
    (c : Call) (lent : List ℤ) (p : Plant) (a : Result Answer Refusal) (words : List ℤ) (q : Plant) → Ran c lent p a words q
    → StandInOrder (view_plant p).rows (view_plant q).rows

-- and it comes with the transaction of its session, and not otherwise
abbrev pub ComesWhenApplied : Type 0
ComesWhenApplied =
    (c : Call) (lent : List ℤ) (p : Plant) (a : Result Answer Refusal) (words : List ℤ) (q : Plant) → kept_plant p ≡ true → Ran c lent p a words q
    → (n : ℕ) → has n (came (view_plant p).rows (view_plant q).rows) ≡ true → Carries n (view_plant p) (view_plant q)

-- and once a session has begun the store changes only so
abbrev pub StoreStaysElse : Type 0
StoreStaysElse =
    (c : Call) (lent : List ℤ) (p : Plant) (a : Result Answer Refusal) (words : List ℤ) (q : Plant) → Ran c lent p a words q
    → ever_begun (view_plant p) ≡ true → came (view_plant p).rows (view_plant q).rows ≡ [] → (view_plant q).store ≡ (view_plant p).store

-- ── after every list of calls from the empty plant ──
-- the sessions applied, in their order: those whose row came, by the plants that the calls got and left
abbrev pub applied_in : Plant → List Event → List ℕ
applied_in p [] = []
applied_in p (e ∷ es) = came (view_plant p).rows (view_plant e.plant).rows ++ applied_in e.plant es

-- no session is applied twice
abbrev pub AppliedOnce : Type 0
AppliedOnce = (p : Plant) → view_plant p ≡ M.setup → kept_plant p ≡ true → (es : List Event) → Runs p es → is_once (applied_in p es) ≡ true

-- the rows stand in that order
abbrev pub InAppliedOrder : Type 0
InAppliedOrder =
    (p : Plant) → view_plant p ≡ M.setup → kept_plant p ≡ true → (es : List Event) → Runs p es
    → InOrder (view_plant (left p es)).rows (applied_in p es)

-- and an accepted sweep takes the oldest of those that it may remove
abbrev pub OldestRowsGo : Type 0
OldestRowsGo =
    (p : Plant) → view_plant p ≡ M.setup → kept_plant p ≡ true → (es : List Event) → Runs p es
    → (lent : List ℤ) (a : Result Answer Refusal) (words : List ℤ) (q : Plant) → Ran Sweep lent (left p es) a words q
    → (ns : List ℕ) → view_answer a ≡ C.fine ns → TakesOldest (applied_in p es) (view_plant (left p es)) ns (view_plant q).rows
