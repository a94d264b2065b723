-- The worked runs of the orders of refusals hold.
use Rattle.std.specs.Prelude.{refl}
use Rattle.rules.specs.Lists.{pushed}
use Rattle.rules.specs.Refusals.{◌⇒◌}
use Rattle.rules.specs.Values.{fits32}
use Rattle.rules.specs.Changes.{member, put_last, change, outcome_refusal, field_of, meets, updated, field_after, sets}
use Rattle.rules.specs.Tables.{documents, setup}
use Rattle.rules.specs.Reading.{shows_it}
use Rattle.rules.specs.Conditions.{conditions}
use Rattle.rules.specs.Effects.{loaded, mapped, begun, cache_after, only_at, after_read, with_exclusive, with_last, grant, changed, committed, abandoned, lapses, lapse, loses, is_lost, in_documents, stays, advanced, taken, carried, applied, deleted, cut}
use Rattle.rules.specs.Step.{accepted, step}
use Rattle.rules.specs.Orders.{Orders}

-- by computing
pub orders : Orders
unfolding setup step conditions accepted mapped loaded begun after_read cache_after only_at changed committed abandoned grant lapse advanced taken applied carried deleted cut meets updated change member put_last fits32 outcome_refusal field_of field_after pushed ◌⇒◌ documents with_last with_exclusive lapses loses is_lost in_documents stays shows_it sets
orders =
    record {
      of_load = refl;
      of_map = refl;
      of_begin = refl;
      of_read = refl;
      of_doomed = refl;
      of_words = (refl, refl, refl, refl, refl);
      of_change = refl;
      of_lapsed = refl;
      of_commit = refl;
      of_abandon = refl;
      of_report = refl;
      of_advance = refl;
      of_take = refl;
      of_apply = refl;
      of_replied = refl;
      of_delete = refl;
    }
