-- The worked runs of pulls hold.
use Rattle.std.specs.Prelude.{ℕ, ◌≡◌, refl, false, true, pos, ℤ}
use Rattle.std.proofs.Common.{arith, ◌∙◌, sym, true≢false}
use mathlib.Core.List.{List, [], ◌++◌, ◌∷◌, nil≢cons, tail-eq_of_cons-eq}
use Rattle.rules.specs.Lists.{pushed}
use Rattle.rules.specs.Refusals.{wrong_kind, ◌⇒◌}
use Rattle.rules.specs.Values.{fits32, absent, list}
use Rattle.rules.specs.Changes.{becomes, fails, member, put_last, change, outcome_refusal, field_of, meets, updated, field_after, sets}
use Rattle.rules.specs.Tables.{documents, setup}
use Rattle.rules.specs.Reading.{shows_it, seen_away}
use Rattle.rules.specs.Calls.{Begin}
use Rattle.rules.specs.Conditions.{conditions}
use Rattle.rules.specs.Effects.{loaded, mapped, begun, cache_after, only_at, after_read, with_exclusive, with_last, grant, changed, committed, lapses, lapse, advanced, loses, is_lost, in_documents, stays, taken, carried, applied, deleted}
use Rattle.rules.specs.Step.{accepted, step}
use Rattle.rules.specs.History.{empty_history, note, initial}
use Rattle.rules.specs.Pulls.{Without}
use Rattle.rules.specs.Scenario.{◌gets◌, says, after, origin}
use Rattle.rules.specs.Histories.{turns_of}
use Rattle.rules.specs.PullRuns.{booked, pulled, busy, four, PullRuns}

seven_four : pos 7 ≡ pos 4 → ⊥
seven_four e = let z : ◌≡◌ {A = ℕ} 7 4 = cc in omega arith

absent-list : (m : List ℤ) → becomes absent ≡ becomes (list m) → ⊥
absent-list m e = let z : ◌≡◌ {A = ℕ} 0 1 = cc in omega arith

absent-fails : becomes absent ≡ fails wrong_kind → ⊥
absent-fails e = let z : ◌≡◌ {A = ℕ} 0 1 = cc in omega arith

second_stays : (m : List ℤ) → becomes (list (pos 7 ∷ four [])) ≡ becomes (list m) → Without (pos 4) (four (pos 7 ∷ four [])) m → ⊥
second_stays m e w =
    let x = (w.0 refl).1 seven_four in
    let same : pos 7 ∷ four [] ≡ m = cc in
    nil≢cons (sym (tail-eq_of_cons-eq (same ∙ x.1) ∙ x.2.0 refl))

-- by computing
pub pull_runs_lem : PullRuns
unfolding initial empty_history note setup step conditions accepted mapped loaded begun after_read cache_after only_at changed committed grant lapse advanced taken applied carried deleted meets updated change member put_last fits32 outcome_refusal field_of field_after pushed ◌⇒◌ documents with_last with_exclusive lapses loses is_lost in_documents stays shows_it sets seen_away
pull_runs_lem =
    record {
      all_six = refl;
      apart = refl;
      together = refl;
      none = (refl, refl);
      signs = (refl, refl);
      no_list = (refl, refl);
      by_load = refl;
      loaded_store = refl;
      seen_at_once = (refl, refl);
      seen_cached = (refl, refl, refl);
      seen_buffered = refl;
      stored = (refl, refl, refl);
      emptied = refl;
      put_back = refl;
      puts_it = refl;
      puts_not = refl;
      loads = refl;
      withdrawn = λ q v before later e. record { before = before; later = later; pulled = refl; not_put = e };
      stands = refl;
      stray_first = λ h. true≢false (h origin (pos 4) (record { before = []; later = []; pulled = refl; not_put = refl }));
      stray_last = λ h. true≢false (h origin (pos 4) (record { before = []; later = []; pulled = refl; not_put = refl }));
      stray_pull = λ h. second_stays h.0 h.1 h.2;
      stray_absent = λ h. absent-list h.0 h.1;
      stray_begun = λ h. absent-list [] (sym h);
      stray_number = absent-fails;
      of_load = λ c. c (pos 0) (pos 0) (pos 4) [] (after booked setup) [] refl;
      of_change = λ c. c (pos 1) (pos 0) (pos 0) (pos 4) [] (after (booked ++ (Begin gets says 1 ∷ [])) setup) (1 ∷ []) refl;
      of_read = λ c. c (turns_of busy) (pos 2);
      cached = (refl, refl);
    }
