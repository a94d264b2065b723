-- The worked runs of both edges hold.
use Rattle.std.specs.Prelude.{refl}
use Rattle.rules.specs.Lists.{pushed}
use Rattle.rules.specs.Refusals.{◌⇒◌}
use Rattle.rules.specs.Values.{fits32}
use Rattle.rules.specs.Changes.{member, put_last, change, outcome_refusal, field_of, meets, updated, field_after}
use Rattle.rules.specs.Tables.{documents, setup}
use Rattle.rules.specs.Conditions.{conditions}
use Rattle.rules.specs.Effects.{loaded, mapped, begun, cache_after, only_at, after_read, with_exclusive, with_last, grant, changed, committed, lapses, lapse, loses, is_lost, in_documents, stays, advanced, taken, carried, applied, deleted, cut}
use Rattle.rules.specs.Step.{accepted, step}
use Rattle.rules.specs.Edges.{Edges, PaperRun}

-- by computing
pub edges : Edges
unfolding setup step conditions accepted mapped loaded begun after_read cache_after only_at changed committed grant lapse advanced taken applied carried deleted cut meets updated change member put_last fits32 outcome_refusal field_of field_after pushed ◌⇒◌ documents with_last with_exclusive lapses loses is_lost in_documents stays
edges =
    record {
      m1 = refl;
      m2 = refl;
      m3 = refl;
      m4 = refl;
      m5 = refl;
      m6 = refl;
      m7 = refl;
      m8 = refl;
      m9 = refl;
      m10 = refl;
      m11 = (refl, refl);
      m12 = refl;
    }

pub paper_run_lem : PaperRun
unfolding setup step conditions accepted loaded begun changed committed grant taken applied carried meets updated change fits32 outcome_refusal field_of field_after pushed ◌⇒◌ with_last with_exclusive
paper_run_lem = refl
