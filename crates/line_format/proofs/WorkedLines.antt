-- The worked lines hold.
use Rattle.std.specs.Prelude.{◌-◌, refl, take}
use Rattle.rules.specs.Lists.{pushed}
use Rattle.rules.specs.Refusals.{◌⇒◌}
use Rattle.rules.specs.Values.{fits32}
use Rattle.rules.specs.Changes.{change, put_last, outcome_refusal, field_of, meets, updated, field_after}
use Rattle.rules.specs.Tables.{documents, setup}
use Rattle.rules.specs.Conditions.{conditions}
use Rattle.rules.specs.Effects.{loaded, mapped, begun, cache_after, only_at, after_read, with_exclusive, with_last, grant, changed, committed, abandoned, lapses, lapse, loses, is_lost, in_documents, stays, advanced, taken, carried, applied, deleted, cut, swept}
use Rattle.rules.specs.Step.{accepted, step}
use Rattle.line_format.specs.Columns.{natural_in, integer_in, column}
use Rattle.line_format.specs.Lines.{said, answer_line}
use Rattle.line_format.specs.Serving.{serve}
use Rattle.line_format.specs.Worked.{Worked}

-- by computing
pub worked : Worked
unfolding setup step conditions accepted mapped loaded begun after_read cache_after only_at changed committed grant abandoned lapse advanced taken applied carried deleted cut swept meets updated change put_last fits32 outcome_refusal field_of field_after pushed ◌⇒◌ documents with_last with_exclusive lapses loses is_lost in_documents stays serve said natural_in integer_in column answer_line
worked =
    record {
      paper = refl;
      recalled = refl;
      load = refl;
      map = refl;
      begin = refl;
      read = refl;
      change = refl;
      commit = refl;
      abandon = refl;
      advance = refl;
      take = refl;
      apply = refl;
      delete = refl;
      cut = refl;
      sweep = refl;
      store = refl;
      report = refl;
      highest = refl;
      lowest = refl;
      short = (refl, refl, refl);
      call_column = (refl, refl, refl, refl, refl, refl);
      numbers = (refl, refl, refl, refl, refl, refl, refl, refl, refl, refl);
      neighbours = (refl, refl, refl, refl, refl, refl, refl, refl, refl);
      counts = (refl, refl, refl, refl, refl, refl);
      inside = (refl, refl, refl, refl, refl, refl, refl);
      zeros = (refl, refl, refl);
      side_by_side = refl;
      form_first = (refl, refl, refl);
      longest = (refl, refl);
      lengths = (refl, refl);
      unknown = (refl, refl, refl, refl);
      answers = (refl, refl, refl, refl, refl);
      wide = refl;
      inputs = (refl, refl, refl, refl, refl);
      reads = refl;
      refused_lines = refl;
      keys_shown = refl;
      others = refl;
      pieces = (refl, refl, refl, refl, refl, refl, refl);
    }
