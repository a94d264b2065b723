-- The worked histories hold, and those that are wrong are refused.
use Rattle.std.specs.Prelude.{ℕ, ◌≡◌, refl, false, true, pos, ℤ}
use Rattle.std.proofs.Common.{arith, ap, subst, sym}
use Rattle.std.proofs.lemmas.Bool.{false≢true}
use mathlib.Core.List.{List, [], ◌++◌, ◌∷◌, head-eq_of_cons-eq, nil≢cons, tail-eq_of_cons-eq}
use Rattle.rules.specs.Lists.{pushed}
use Rattle.rules.specs.Refusals.{◌⇒◌}
use Rattle.rules.specs.Values.{fits32, absent, number, Stock}
use Rattle.rules.specs.Changes.{follow, member, put_last, change, outcome_refusal, field_of, meets, updated, field_after, sets}
use Rattle.rules.specs.Tables.{documents, setup}
use Rattle.rules.specs.Reading.{shows_it}
use Rattle.rules.specs.Conditions.{conditions}
use Rattle.rules.specs.Effects.{loaded, mapped, begun, cache_after, only_at, after_read, with_exclusive, with_last, grant, changed, committed, abandoned, lapses, lapse, loses, is_lost, in_documents, stays, advanced, taken, carried, applied, deleted, cut, swept}
use Rattle.rules.specs.Step.{accepted, step}
use Rattle.rules.specs.History.{changes_of, Committed, whole, empty_history, note, initial}
use Rattle.rules.specs.Demand3.{AllBuffered, cut_worker, bring_near, wait}
use Rattle.rules.specs.Scenario.{no, origin}
use Rattle.rules.specs.Histories.{turns_of, carried_and_swept, late_calls, four_of3, nothing, five, five_set, Histories}

-- ── proofs ──
number-absent : number (pos 5) ≡ absent → ⊥
number-absent e = let z : ◌≡◌ {A = ℕ} 0 1 = cc in omega arith

no_other_store : (d l : List Committed) → [] ≡ d ++ l → five ≡ follow nothing (whole d) → ⊥
no_other_store [] l e s = number-absent (ap (λ (t : Stock). t origin) s)
no_other_store (x ∷ d) l e s = nil≢cons e

not_buffered_lem : (d l : List Committed) → five_set ∷ [] ≡ d ++ l → nothing ≡ follow nothing (whole d) → AllBuffered [] l → ⊥
unfolding updated change field_of field_after
not_buffered_lem [] l e s o = let h : AllBuffered [] (five_set ∷ []) = subst (λ (m : List Committed). AllBuffered [] m) (sym e) o in false≢true (h.0 refl)
not_buffered_lem (x ∷ []) l e s o =
    let k : five_set ≡ x = head-eq_of_cons-eq e in
    let h : absent ≡ follow nothing (changes_of x.page ++ []) origin = ap (λ (t : Stock). t origin) s in
    let g : absent ≡ follow nothing (changes_of five_set.page ++ []) origin =
    subst (λ (c : Committed). absent ≡ follow nothing (changes_of c.page ++ []) origin) (sym k) h in
    number-absent (sym g)
not_buffered_lem (x ∷ y ∷ d) l e s o = nil≢cons (tail-eq_of_cons-eq e)

-- an absent field's words are no number's
kinds_differ : {l m : List ℤ} → pos 0 ∷ l ≡ pos 1 ∷ m → ⊥
kinds_differ e = let z : ◌≡◌ {A = ℕ} 0 1 = cc in omega arith

heads_differ : {l m : List ℕ} → 2 ∷ l ≡ 1 ∷ m → ⊥
heads_differ e = let z : ◌≡◌ {A = ℕ} 2 1 = cc in omega arith

pub histories : Histories
unfolding setup step conditions accepted mapped loaded begun after_read cache_after only_at changed committed abandoned grant lapse advanced taken applied carried deleted cut swept meets updated change member put_last fits32 outcome_refusal field_of field_after pushed ◌⇒◌ documents with_last with_exclusive lapses loses is_lost in_documents stays shows_it sets initial empty_history note
histories =
    record {
      played = (refl, refl);
      pages = refl;
      start_and_notes = (refl, refl, refl, refl, refl);
      quiet_pages = refl;
      quiet_notes = (refl, refl, refl, refl, refl);
      numbers = refl;
      deletes = (refl, refl);
      deletes_latter = (refl, refl);
      four = refl;
      added = refl;
      last_ticks = record { worker = refl; moves = refl; ticks_left = omega arith; store = refl };
      brought_near = record { worker = refl; moves = refl; ticks_left = omega arith; store = refl };
      both_near = record { worker = refl; moves = refl; ticks_left = omega arith; store = refl };
      drain_plays = refl;
      drains = λ h.
          h.drains 3 (omega arith) (cut_worker ∷ wait 100 ∷ bring_near ∷ wait 200 ∷ [])
          (record { worker = refl; moves = refl; ticks_left = omega arith; store = refl })
          (turns_of late_calls) (turns_of four_of3) refl refl;
      every_list = λ d. d (turns_of carried_and_swept);
      other_words = λ r. kinds_differ (sym r.0);
      old_words = λ r. kinds_differ r.1.0;
      unfit_change = λ r. let z : ◌≡◌ {A = ℕ} 0 1 = cc r.1.0 in omega arith;
      unfit_second = λ r. let z : ◌≡◌ {A = ℕ} 0 1 = cc r.1.0 in omega arith;
      wrong_first = λ r. kinds_differ r.0.0;
      wrong_second = λ r. kinds_differ r.1.0.0;
      other_store = λ f. no_other_store f.done f.left f.split f.stock;
      not_buffered = λ f. not_buffered_lem f.done f.left f.split f.stock f.others;
      disordered = λ e. heads_differ e;
      never_committed = λ e. nil≢cons (sym e);
      refused_last = λ n. false≢true n.1.0;
      left_buffered = λ d. nil≢cons (sym d.nothing_buffered);
      not_stored = λ d. number-absent (sym (ap (λ (t : Stock). t origin) d.all_stored));
      not_fine = λ d. false≢true d.none_refused.0;
      stray_store = λ h. no_other_store h.first_part.done h.first_part.left h.first_part.split h.first_part.stock;
      stray_buffer = λ h. heads_differ h.buffer;
      stray_order = λ h. heads_differ h.commit_order;
      stray_page = λ h. kinds_differ h.as_alone.1.0.0;
    }
