-- All that is claimed of the rules.
use Rattle.rules.specs.Refusals.{was_doomed, exclusive_elsewhere}
use Rattle.rules.specs.Claims.{RefusalsLeave, EndsSession, SparesSessions, WritesOnly, FillsOnly, SetupKept, StepKeeps, KnownAway, StoreAway, SeenFits, ReadsShow, CommitLeavesStore, AnswersCount, NumbersRise, LeaseUnseen}
use Rattle.rules.specs.CacheOrder.{InReadOrder, OldestGivesWay, CommitCachesNone, ClockLeavesOrder}
use Rattle.rules.specs.RowOrder.{RowsInOrder, ComesWhenApplied, StoreStaysElse, AppliedOnce, InAppliedOrder, OldestRowsGo}
use Rattle.rules.specs.Pulls.{OneWithout, PullsAll, LoadPulls, ChangePulls, ReadsLack, StoreLacks}
use Rattle.rules.specs.Walks.{WalksBack, NewestFirst, Finds, KnownByWalk, SeenByWalk, WalkDecides}
use Rattle.rules.specs.Demand3.{Demand3}
use Rattle.rules.specs.Edges.{Edges, PaperRun}
use Rattle.rules.specs.Runs.{Runs}
use Rattle.rules.specs.Orders.{Orders}
use Rattle.rules.specs.Bounds.{Bounds}
use Rattle.rules.specs.Histories.{Histories}
use Rattle.rules.specs.CacheRuns.{CacheRuns}
use Rattle.rules.specs.RowRuns.{RowRuns}
use Rattle.rules.specs.PullRuns.{PullRuns}
use Rattle.rules.specs.WalkRuns.{WalkRuns}

pub record Theorem : Type 0 where
  -- demand 1
  pub refusals_leave : RefusalsLeave
  pub three_ends : EndsSession was_doomed
  pub four_ends : EndsSession exclusive_elsewhere
  pub spares_sessions : SparesSessions
  pub writes_only : WritesOnly
  pub fills_only : FillsOnly
  -- the plant's rules
  pub setup_kept : SetupKept
  pub step_keeps : StepKeeps
  -- demand 2
  pub known_away : KnownAway
  pub store_away : StoreAway
  pub seen_fits : SeenFits
  pub reads_show : ReadsShow
  pub commit_leaves_store : CommitLeavesStore
  pub answers_count : AnswersCount
  pub numbers_rise : NumbersRise
  pub lease_unseen : LeaseUnseen
  -- the key cached longest ago gives way
  pub in_read_order : InReadOrder
  pub oldest_gives_way : OldestGivesWay
  pub commit_caches_none : CommitCachesNone
  pub clock_leaves_order : ClockLeavesOrder
  -- a sweep takes what it can, oldest rows first
  pub rows_in_order : RowsInOrder
  pub comes_when_applied : ComesWhenApplied
  pub store_stays_else : StoreStaysElse
  pub applied_once : AppliedOnce
  pub in_applied_order : InAppliedOrder
  pub oldest_rows_go : OldestRowsGo
  -- a recalled lot leaves the tally whole
  pub one_without : OneWithout
  pub pulls_all : PullsAll
  pub load_pulls : LoadPulls
  pub change_pulls : ChangePulls
  pub reads_lack : ReadsLack
  pub store_lacks : StoreLacks
  -- look from the newest booking back
  pub walks_back : WalksBack
  pub newest_first : NewestFirst
  pub finds : Finds
  pub known_by_walk : KnownByWalk
  pub seen_by_walk : SeenByWalk
  pub walk_decides : WalkDecides
  -- demand 3
  pub demand3 : Demand3
  -- worked examples
  pub edges : Edges
  pub paper_run : PaperRun
  pub runs : Runs
  pub orders : Orders
  pub bounds : Bounds
  pub histories : Histories
  pub cache_runs : CacheRuns
  pub row_runs : RowRuns
  pub pull_runs : PullRuns
  pub walk_runs : WalkRuns
