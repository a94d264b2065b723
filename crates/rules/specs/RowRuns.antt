-- Runs worked out from the papers: which rows a sweep takes, what it answers, and the order in which rows stand.
use Rattle.std.specs.Prelude.{suc, ℕ, ◌≡◌, false, true, List, [], ◌++◌, ◌∷◌}
use Rattle.rules.specs.Lists.{span}
use Rattle.rules.specs.Tables.{Plant, setup, with_rows, with_next}
use Rattle.rules.specs.Calls.{arrives, unreached, Sweep}
use Rattle.rules.specs.Effects.{applied, swept}
use Rattle.rules.specs.Step.{step}
use Rattle.rules.specs.RowOrder.{came, applied_order}
use Rattle.rules.specs.Scenario.{Line, ◌gets◌, yes, says, no, after, Plays, advance, takes, apply, delete, cuts, near, setting, hand_with_rows, applied1, slow1, latter_first}
use Rattle.rules.specs.Histories.{turns_of}

-- k rows, 1 to k, that nobody needs
abbrev pub with_free : ℕ → Plant
with_free k = with_rows (span 1 k) (with_next (suc k) setup)

-- the rows that a sweep leaves of these, where worker 0 has session 1 in hand, which is buffered
abbrev pub left_of : List ℕ → List ℕ
left_of l = (step Sweep [] (with_rows l (hand_with_rows 1 0))).plant.rows

-- session 2 is applied before session 1; worker 0 has 2 in hand still
abbrev pub two_then_one : List Line
two_then_one = latter_first ++ (takes 1 gets says 1 ∷ apply 1 arrives gets says 1 ∷ delete 1 gets says 1 ∷ [])

pub record RowRuns : Type 0 where
  -- a row goes once its session is neither buffered nor in a hand: not while it is both, not while it is buffered, not while it is in a hand
  pub buffered : Plays setup
      (applied1
      ++ (Sweep gets says 0
      ∷ cuts 0 gets yes
      ∷ Sweep gets says 0
      ∷ advance 300 gets says 300
      ∷ takes 1 gets says 1
      ∷ apply 1 arrives gets says 2
      ∷ delete 1 gets says 1
      ∷ Sweep gets says 1
      ∷ Sweep gets says 0
      ∷ []))
  pub in_hand : Plays setup (slow1 ++ (Sweep gets says 0 ∷ apply 0 arrives gets says 2 ∷ Sweep gets says 0 ∷ delete 0 gets says 0 ∷ Sweep gets says 1 ∷ []))
  -- the smaller of 16 and the rows that may go
  pub none : Plays setup (Sweep gets says 0 ∷ [])
  pub fifteen : Plays (with_free 15) (Sweep gets says 15 ∷ Sweep gets says 0 ∷ [])
  pub sixteen : Plays (with_free 16) (Sweep gets says 16 ∷ Sweep gets says 0 ∷ [])
  pub seventeen : Plays (with_free 17) (Sweep gets says 16 ∷ Sweep gets says 1 ∷ Sweep gets says 0 ∷ [])
  pub all : Plays (with_free 48) (Sweep gets says 16 ∷ Sweep gets says 16 ∷ Sweep gets says 16 ∷ Sweep gets says 0 ∷ [])
  -- the first sixteen, and the seventeenth stays; in the order of the rows and not of their numbers
  pub first_go : left_of (span 2 17) ≡ 18 ∷ []
  pub by_place : left_of (30 ∷ 40 ∷ span 2 15) ≡ 16 ∷ []
  -- a row that may not go is passed over and not counted, as the first, between others and as the last
  pub passed : (left_of (1 ∷ span 2 17) ≡ 1 ∷ 18 ∷ [])
      × (left_of (30 ∷ 1 ∷ span 2 17) ≡ 1 ∷ 17 ∷ 18 ∷ [])
      × (left_of (span 2 15 ++ (1 ∷ 17 ∷ 18 ∷ [])) ≡ 1 ∷ 18 ∷ [])
      × (left_of (span 2 3 ++ (1 ∷ [])) ≡ 1 ∷ [])
      × (left_of (span 2 17 ++ (1 ∷ [])) ≡ 18 ∷ 1 ∷ [])
  pub passed_over : Plays (with_rows (30 ∷ 1 ∷ span 2 17) (hand_with_rows 1 0)) (Sweep gets says 16 ∷ Sweep gets says 2 ∷ Sweep gets says 0 ∷ [])
  -- 20: while the store is away no row goes
  pub away : Plays (with_free 2) (near false gets yes ∷ Sweep gets no 20 ∷ near true gets yes ∷ Sweep gets says 2 ∷ [])
  -- the 48th row stands last too
  pub last_row : (after (apply 0 arrives gets says 1 ∷ []) (hand_with_rows 2 47)).rows ≡ span 2 47 ++ (1 ∷ [])
  -- the order in which sessions were applied is not that of their numbers; an apply whose reply is lost counts, and one that finds its row does not
  pub order : (applied_order (turns_of two_then_one) ≡ 2 ∷ 1 ∷ []) × ((after two_then_one setup).rows ≡ 2 ∷ 1 ∷ [])
  pub found_again : (applied_order (turns_of (two_then_one ++ (apply 0 arrives gets says 2 ∷ []))) ≡ 2 ∷ 1 ∷ [])
      × ((after (two_then_one ++ (apply 0 arrives gets says 2 ∷ [])) setup).rows ≡ 2 ∷ 1 ∷ [])
  -- a sweep leaves it, and takes 1, because 2 is in a hand; a row that comes stands last
  pub swept : (applied_order (turns_of (two_then_one ++ (Sweep gets says 1 ∷ setting 3 1 ++ (takes 1 gets says 3 ∷ apply 1 arrives gets says 1 ∷ [])))) ≡ 2 ∷ 1 ∷ 3 ∷ [])
      × ((after (two_then_one ++ (Sweep gets says 1 ∷ setting 3 1 ++ (takes 1 gets says 3 ∷ apply 1 arrives gets says 1 ∷ []))) setup).rows ≡ 2 ∷ 3 ∷ [])
  pub two_later : Plays (after two_then_one setup)
      (Sweep gets says 1 ∷ Sweep gets says 0 ∷ apply 0 arrives gets says 2 ∷ delete 0 gets says 0 ∷ Sweep gets says 1 ∷ [])
  -- an apply that does not reach the store, or is refused, puts none
  pub not_reached : applied_order
      (turns_of (setting 1 1 ++ (takes 0 gets says 1 ∷ apply 0 unreached gets says 0 ∷ near false gets yes ∷ apply 0 arrives gets no 20 ∷ [])))
      ≡ []
  -- what came is what was not there
  pub came_alone : came (4 ∷ 2 ∷ []) (2 ∷ 7 ∷ []) ≡ 7 ∷ []
