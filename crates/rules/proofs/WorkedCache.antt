-- The worked runs of the cached keys hold.
use Rattle.std.specs.Prelude.{refl}
use Rattle.rules.specs.Lists.{pushed}
use Rattle.rules.specs.Refusals.{◌⇒◌}
use Rattle.rules.specs.Values.{fits32}
use Rattle.rules.specs.Changes.{change, outcome_refusal, field_of, meets, updated, field_after, sets}
use Rattle.rules.specs.Tables.{documents, setup}
use Rattle.rules.specs.Reading.{shows_it}
use Rattle.rules.specs.Conditions.{conditions}
use Rattle.rules.specs.Effects.{mapped, begun, cache_after, only_at, after_read, with_exclusive, with_last, grant, changed, committed, abandoned, lapses, lapse, loses, is_lost, in_documents, stays, advanced}
use Rattle.rules.specs.Step.{accepted, step}
use Rattle.rules.specs.History.{initial}
use Rattle.rules.specs.CacheRuns.{CacheRuns}

-- by computing
pub cache_runs_lem : CacheRuns
unfolding initial setup step conditions accepted mapped begun after_read cache_after only_at changed committed abandoned grant lapse advanced meets updated change fits32 outcome_refusal field_of field_after pushed ◌⇒◌ documents with_last with_exclusive lapses loses is_lost in_documents stays shows_it sets
cache_runs_lem =
    record {
      seventeen = refl;
      brought_up_to_date = refl;
      cached_again = refl;
      no_place = refl;
      while_away = refl;
      fields = (refl, refl);
      order = (refl, refl, refl);
      by_marks = refl;
    }
