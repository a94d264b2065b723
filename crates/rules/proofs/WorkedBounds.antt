-- The worked runs at the bounds hold.
use Rattle.std.specs.Prelude.{refl}
use Rattle.rules.specs.Lists.{pushed}
use Rattle.rules.specs.Refusals.{◌⇒◌}
use Rattle.rules.specs.Values.{fits32}
use Rattle.rules.specs.Changes.{member, put_last, change, outcome_refusal, field_of, meets, updated, field_after, sets}
use Rattle.rules.specs.Tables.{documents, setup}
use Rattle.rules.specs.Reading.{shows_it}
use Rattle.rules.specs.Conditions.{conditions}
use Rattle.rules.specs.Effects.{loaded, mapped, begun, cache_after, only_at, after_read, with_exclusive, with_last, grant, changed, committed, abandoned, lapses, lapse, loses, is_lost, in_documents, stays, advanced, taken, carried, applied, deleted, cut}
use Rattle.rules.specs.Step.{accepted, step}
use Rattle.rules.specs.Kept.{kept}
use Rattle.rules.specs.Bounds.{Bounds}

-- by computing
pub bounds : Bounds
unfolding setup step conditions accepted mapped loaded begun after_read cache_after only_at changed committed abandoned grant lapse advanced taken applied carried deleted cut meets updated change member put_last fits32 outcome_refusal field_of field_after pushed ◌⇒◌ documents with_last with_exclusive lapses loses is_lost in_documents stays shows_it sets kept
bounds =
    record {
      changes = refl;
      maps = refl;
      places = refl;
      fields = refl;
      words = (refl, refl);
      sums = (refl, refl, refl, refl, refl, refl, refl);
      members = (refl, refl, refl, refl);
      workers = refl;
      clock = refl;
      clock_past = refl;
      rows = (refl, refl);
      cached = (refl, refl);
      slots = (refl, refl);
      buffered = (refl, refl);
      rows_kept = (refl, refl);
      rows_once = (refl, refl);
      clock_kept = (refl, refl);
      numbers_kept = (refl, refl, refl);
    }
