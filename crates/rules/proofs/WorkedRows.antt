-- The worked runs of rows and sweeps hold.
use Rattle.std.specs.Prelude.{refl}
use Rattle.rules.specs.Lists.{pushed}
use Rattle.rules.specs.Refusals.{◌⇒◌}
use Rattle.rules.specs.Values.{fits32}
use Rattle.rules.specs.Changes.{change, outcome_refusal, field_of, meets, updated, field_after}
use Rattle.rules.specs.Tables.{documents, setup}
use Rattle.rules.specs.Conditions.{conditions}
use Rattle.rules.specs.Effects.{begun, with_exclusive, with_last, grant, changed, committed, lapses, lapse, advanced, taken, carried, applied, deleted, cut, swept}
use Rattle.rules.specs.Step.{accepted, step}
use Rattle.rules.specs.History.{initial}
use Rattle.rules.specs.RowRuns.{RowRuns}

-- by computing
pub row_runs_lem : RowRuns
unfolding initial setup step conditions accepted begun changed committed grant lapse advanced taken applied carried deleted cut swept meets updated change fits32 outcome_refusal field_of field_after pushed ◌⇒◌ documents with_last with_exclusive lapses
row_runs_lem =
    record {
      buffered = refl;
      in_hand = refl;
      none = refl;
      fifteen = refl;
      sixteen = refl;
      seventeen = refl;
      all = refl;
      first_go = refl;
      by_place = refl;
      passed = (refl, refl, refl, refl, refl);
      passed_over = refl;
      away = refl;
      last_row = refl;
      order = (refl, refl);
      found_again = (refl, refl);
      swept = (refl, refl);
      two_later = refl;
      not_reached = refl;
      came_alone = refl;
    }
