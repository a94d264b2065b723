-- The worked runs of the calls hold.
use Rattle.std.specs.Prelude.{refl}
use Rattle.rules.specs.Lists.{pushed}
use Rattle.rules.specs.Refusals.{◌⇒◌}
use Rattle.rules.specs.Values.{fits32}
use Rattle.rules.specs.Changes.{member, put_last, change, outcome_refusal, field_of, meets, updated, field_after, sets}
use Rattle.rules.specs.Tables.{documents, setup}
use Rattle.rules.specs.Reading.{shows_it}
use Rattle.rules.specs.Conditions.{conditions}
use Rattle.rules.specs.Effects.{loaded, mapped, begun, cache_after, only_at, after_read, with_exclusive, with_last, grant, changed, committed, abandoned, lapses, lapse, loses, is_lost, in_documents, stays, advanced, taken, carried, applied, deleted, cut, swept}
use Rattle.rules.specs.Step.{accepted, step}
use Rattle.rules.specs.Kept.{kept}
use Rattle.rules.specs.Runs.{Runs}

-- by computing
pub runs : Runs
unfolding setup step conditions accepted mapped loaded begun after_read cache_after only_at changed committed abandoned grant lapse advanced taken applied carried deleted cut swept meets updated change member put_last fits32 outcome_refusal field_of field_after pushed ◌⇒◌ documents with_last with_exclusive lapses loses is_lost in_documents stays shows_it sets kept
runs =
    record {
      range = refl;
      range' = refl;
      no_session = refl;
      lapsed = refl;
      hindered = refl;
      nine = refl;
      unfit = refl;
      seven = refl;
      unfit_spares = refl;
      undefined = refl;
      words = (refl, refl);
      slots = refl;
      spent = refl;
      set_up = refl;
      workers = refl;
      slow = refl;
      nobodys = refl;
      drained = refl;
      sweeping = (refl, refl, refl);
      rows = refl;
      rows_left = refl;
      row_there = refl;
      away = refl;
      clock = refl;
      marks = refl;
      grants = refl;
      shown = refl;
      full_spares = refl;
      doomed_calls = refl;
      slot_kept = refl;
      half_known = refl;
      fates_away = refl;
      read_again = refl;
      other_lease = refl;
      lapse_drops = refl;
      mark_by_place = refl;
      six = refl;
      pulls = (refl, refl);
      bad_pairs = refl;
      ever_begins = refl;
      reused = refl;
      counted = refl;
      later_life = refl;
      later_leases = refl;
      later_queue = refl;
      read_exclusive = refl;
      lapse_drops_all = refl;
      life_drops = refl;
      mark_by_second = refl;
      cached_known = refl;
      abandon_away = refl;
      lease_kept = refl;
      negatives = refl;
      wide_session = refl;
      add_to_number = refl;
      empty_shown = refl;
      lapse_together = refl;
      gone_lease = refl;
      mark_by_any = refl;
      buffered_known = refl;
      replied_hand = refl;
      nobodys_stays = refl;
      nameless = (refl, refl);
      six_shown = refl;
      every_cached = refl;
      fates = refl;
      signs = (refl, refl, refl, refl, refl);
      replaced = (refl, refl, refl, refl);
      known_by_any = refl;
      inc_unknown = refl;
      known_lost = refl;
      exclusive_anywhere = refl;
      ends = refl;
      doomed_loses = refl;
      only_lapses_drop = refl;
      gone_spares = refl;
      last_hand = (refl, refl, refl);
      latter = refl;
      other_hand = (refl, refl, refl);
      full_rows_leave = refl;
      shown_once = refl;
      refused_spare = refl;
      carries_one = (refl, refl);
      limits = refl;
      refusals = refl;
      numbers = refl;
      computes = (refl, refl);
    }
