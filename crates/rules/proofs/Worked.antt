-- The worked runs, first of all: a definition that is off shows as a run that is false before any law is tried.
use Rattle.rules.specs.Edges.{Edges, PaperRun}
use Rattle.rules.proofs.WorkedEdges.{edges, paper_run_lem}
use Rattle.rules.specs.Runs.{Runs}
use Rattle.rules.proofs.WorkedCalls.{runs}
use Rattle.rules.specs.Orders.{Orders}
use Rattle.rules.proofs.WorkedOrders.{orders}
use Rattle.rules.specs.Bounds.{Bounds}
use Rattle.rules.proofs.WorkedBounds.{bounds}
use Rattle.rules.specs.Histories.{Histories}
use Rattle.rules.proofs.WorkedHistories.{histories}
use Rattle.rules.specs.CacheRuns.{CacheRuns}
use Rattle.rules.proofs.WorkedCache.{cache_runs_lem}
use Rattle.rules.specs.RowRuns.{RowRuns}
use Rattle.rules.proofs.WorkedRows.{row_runs_lem}
use Rattle.rules.specs.PullRuns.{PullRuns}
use Rattle.rules.proofs.WorkedPulls.{pull_runs_lem}
use Rattle.rules.specs.WalkRuns.{WalkRuns}
use Rattle.rules.proofs.WorkedWalks.{walk_runs_lem}

pub worked_runs : Edges × PaperRun × Runs × Orders × Bounds × Histories × CacheRuns × RowRuns × PullRuns × WalkRuns
worked_runs = (edges, paper_run_lem, runs, orders, bounds, histories, cache_runs_lem, row_runs_lem, pull_runs_lem, walk_runs_lem)
