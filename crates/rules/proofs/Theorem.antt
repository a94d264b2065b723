-- Every claim, proved.
use Rattle.rules.proofs.WorkedEdges.{edges, paper_run_lem}
use Rattle.rules.proofs.WorkedCalls.{runs}
use Rattle.rules.proofs.WorkedOrders.{orders}
use Rattle.rules.proofs.WorkedBounds.{bounds}
use Rattle.rules.proofs.WorkedHistories.{histories}
use Rattle.rules.proofs.WorkedCache.{cache_runs_lem}
use Rattle.rules.proofs.WorkedRows.{row_runs_lem}
use Rattle.rules.proofs.WorkedPulls.{pull_runs_lem}
use Rattle.rules.proofs.WorkedWalks.{walk_runs_lem}
use Rattle.rules.specs.Theorem.{Theorem}
use Rattle.rules.proofs.Steps.{refusals_leave_lem, three_ends_lem, four_ends_lem}
use Rattle.rules.proofs.Sessionless.{spares_sessions_lem}
use Rattle.rules.proofs.KeptTest.{setup_is_kept, kept_step}
use Rattle.rules.proofs.Away.{known-away, store_away_lem, seen_fits_lem}
use Rattle.rules.proofs.Demand3.{demand3}
use Rattle.rules.proofs.Demand2.{reads_show_lem}
use Rattle.rules.proofs.Frames.{writes_only_lem, commit_leaves_store_lem, lease_unseen_lem, fills_only_lem}
use Rattle.rules.proofs.Numbers.{numbers_rise_lem}
use Rattle.rules.proofs.Answers.{answers_count_lem}
use Rattle.rules.proofs.CacheOrder.{in_read_order_lem, oldest_gives_way_lem, commit_caches_none_lem, clock_leaves_order_lem}
use Rattle.rules.proofs.RowOrder.{rows_in_order_lem, comes_when_applied_lem, store_stays_else_lem, applied_once_lem, in_applied_order_lem, oldest_rows_go_lem}
use Rattle.rules.proofs.Pulls.{one_without_lem, pulls_all_lem, load_pulls_lem, change_pulls_lem, reads_lack_lem, store_lacks_lem}
use Rattle.rules.proofs.Walks.{walks_back_lem, newest_first_lem, finds, known_by_walk_lem, seen_by_walk_lem, walk_decides_lem}

pub theorem : Theorem
theorem =
    record {
      refusals_leave = refusals_leave_lem;
      three_ends = three_ends_lem;
      four_ends = four_ends_lem;
      spares_sessions = spares_sessions_lem;
      writes_only = writes_only_lem;
      fills_only = fills_only_lem;
      setup_kept = setup_is_kept;
      step_keeps = kept_step;
      known_away = known-away;
      store_away = store_away_lem;
      seen_fits = seen_fits_lem;
      reads_show = reads_show_lem;
      commit_leaves_store = commit_leaves_store_lem;
      answers_count = answers_count_lem;
      numbers_rise = numbers_rise_lem;
      lease_unseen = lease_unseen_lem;
      in_read_order = in_read_order_lem;
      oldest_gives_way = oldest_gives_way_lem;
      commit_caches_none = commit_caches_none_lem;
      clock_leaves_order = clock_leaves_order_lem;
      rows_in_order = rows_in_order_lem;
      comes_when_applied = comes_when_applied_lem;
      store_stays_else = store_stays_else_lem;
      applied_once = applied_once_lem;
      in_applied_order = in_applied_order_lem;
      oldest_rows_go = oldest_rows_go_lem;
      one_without = one_without_lem;
      pulls_all = pulls_all_lem;
      load_pulls = load_pulls_lem;
      change_pulls = change_pulls_lem;
      reads_lack = reads_lack_lem;
      store_lacks = store_lacks_lem;
      walks_back = walks_back_lem;
      newest_first = newest_first_lem;
      finds = finds;
      known_by_walk = known_by_walk_lem;
      seen_by_walk = seen_by_walk_lem;
      walk_decides = walk_decides_lem;
      demand3 = demand3;
      edges = edges;
      paper_run = paper_run_lem;
      runs = runs;
      orders = orders;
      bounds = bounds;
      histories = histories;
      cache_runs = cache_runs_lem;
      row_runs = row_runs_lem;
      pull_runs = pull_runs_lem;
      walk_runs = walk_runs_lem;
    }
