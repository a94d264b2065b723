-- A sweep takes what it can, oldest rows first: what is claimed of the order of the rows. Answers.Sweeps says what one sweep leaves on any kept plant.
use Rattle.std.specs.Prelude.{◌≤◌, ℕ, ◌≡◌, ◌&&◌, not, true, List, [], ◌++◌, ◌∷◌, length, take, ℤ}
use Rattle.rules.specs.Lists.{keep, has, is_once, InOrder}
use Rattle.rules.specs.Limits.{sweep_limit}
use Rattle.rules.specs.Tables.{Plant, removable}
use Rattle.rules.specs.Calls.{Call, Sweep, fine}
use Rattle.rules.specs.Conditions.{ever_begun}
use Rattle.rules.specs.Step.{step}
use Rattle.rules.specs.Kept.{kept}
use Rattle.rules.specs.Answers.{Carries}
use Rattle.rules.specs.History.{Turn, does, initial, left_by}

-- ── of one call ──
-- the rows that came
abbrev pub came : List ℕ → List ℕ → List ℕ
came before after = keep (λ n. not (has n before)) after

-- what is left stands in its order, and after it what came, one row at most
pub record StandInOrder (before after : List ℕ) : Type 0 where
  pub order : after ≡ keep (λ n. has n after) before ++ came before after
  pub one_at_most : length (came before after) ≤ 1

-- whatever the call, refused or not, and on any plant
abbrev pub RowsInOrder : Type 0
RowsInOrder = (c : Call) (lent : List ℤ) (p : Plant) → StandInOrder p.rows (step c lent p).plant.rows

-- a row comes with the transaction of its session, and not otherwise, on every kept plant
abbrev pub ComesWhenApplied : Type 0
ComesWhenApplied =
    (c : Call) (lent : List ℤ) (p : Plant) (n : ℕ) → kept p ≡ true → has n (came p.rows (step c lent p).plant.rows) ≡ true
    → Carries n p (step c lent p).plant

-- and once a session has begun the store changes only so: where no row comes, it stays. So a session is applied just when its row comes
abbrev pub StoreStaysElse : Type 0
StoreStaysElse =
    (c : Call) (lent : List ℤ) (p : Plant) → ever_begun p ≡ true → came p.rows (step c lent p).plant.rows ≡ []
    → (step c lent p).plant.store ≡ p.store

-- ── after every list of calls ──
-- the sessions applied, in their order: those whose row came
abbrev pub applied_from : List Turn → Plant → List ℕ
applied_from [] p = []
applied_from (t ∷ ts) p = came p.rows (does t p).plant.rows ++ applied_from ts (does t p).plant

abbrev pub applied_order : List Turn → List ℕ
applied_order ts = applied_from ts initial.plant

-- no session is applied twice
abbrev pub AppliedOnce : Type 0
AppliedOnce = (ts : List Turn) → is_once (applied_order ts) ≡ true

-- the rows stand in that order
abbrev pub InAppliedOrder : Type 0
InAppliedOrder = (ts : List Turn) → InOrder (left_by ts).rows (applied_order ts)

-- in an order, the first sixteen whose row stands and may be removed
abbrev pub oldest_removable : List ℕ → Plant → List ℕ
oldest_removable order p = take sweep_limit (keep (λ n. has n p.rows && removable p n) order)

-- a sweep answers how many these are, and they are gone; the other rows stand in the order
pub record TakesOldest (order : List ℕ) (p : Plant) (ns after : List ℕ) : Type 0 where
  pub counts : ns ≡ length (oldest_removable order p) ∷ []
  pub leaves : after ≡ keep (λ n. has n p.rows && not (has n (oldest_removable order p))) order

abbrev pub OldestRowsGo : Type 0
OldestRowsGo =
    (ts : List Turn) (lent : List ℤ) (ns : List ℕ) → (step Sweep lent (left_by ts)).answer ≡ fine ns
    → TakesOldest (applied_order ts) (left_by ts) ns (step Sweep lent (left_by ts)).plant.rows
