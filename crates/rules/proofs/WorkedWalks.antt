-- The worked runs of walks hold.
use Rattle.std.specs.Prelude.{ℕ, List, ◌≡◌, refl, false, true, ◌⊎◌, [], ◌∷◌, replicate, pos}
use Rattle.std.proofs.Common.{arith, ap, sym, true≢false, inl, ⊎_elim}
use Rattle.rules.specs.Lists.{pushed}
use Rattle.rules.specs.Refusals.{◌⇒◌}
use Rattle.rules.specs.Values.{fits32, nat_of, Place, Field, absent, number, list}
use Rattle.rules.specs.Changes.{Kind, Update, set, unset, inc, kind_number, put_last, change, outcome_refusal, field_of, meets, updated, field_after, sets}
use Rattle.rules.specs.Tables.{documents, setup}
use Rattle.rules.specs.Reading.{shows_it, seen_away, Walk, walk}
use Rattle.rules.specs.Conditions.{conditions}
use Rattle.rules.specs.Effects.{mapped, begun, cache_after, only_at, after_read, with_exclusive, with_last, grant, changed, committed, lapses, lapse, advanced, loses, is_lost, in_documents, stays, taken, carried, applied, deleted}
use Rattle.rules.specs.Step.{accepted, step}
use Rattle.rules.specs.Walks.{Fixes, Newest}
use Rattle.rules.specs.Scenario.{after, origin}
use Rattle.rules.specs.WalkRuns.{stopped, passed, set_it, inc_it, set_other, held, three_deep, keyless, cached_origin, shows_origin, cached9, WalkRuns}

kind_not : (k : Kind) → (kind_number k ≡ 3) → (k ≡ set) ⊎ (k ≡ unset) → ⊥
kind_not k e = ⊎_elim (λ h. let z = ap kind_number h in omega arith) (λ h. let z = ap kind_number h in omega arith)

inc_fixes_none : Fixes origin inc_it → ⊥
inc_fixes_none h = kind_not inc refl h.1

elsewhere_fixes_none : Fixes origin set_other → ⊥
elsewhere_fixes_none h = let z = ap (λ (q : Place). q.field) h.0 in omega arith

fixed : Fixes origin set_it
fixed = (refl, inl refl)

abbrev set_then_inc : Newest origin (set_it ∷ inc_it ∷ [])
set_then_inc = record { older = []; change = set_it; newer = inc_it ∷ []; split = refl; fixes = fixed; none_newer = (inc_fixes_none, tt) }

abbrev only_set : Newest origin (set_it ∷ [])
only_set = record { older = []; change = set_it; newer = []; split = refl; fixes = fixed; none_newer = tt }

abbrev first_kind : List Update → ℕ
first_kind [] = 0
first_kind (c ∷ cs) = kind_number c.kind

abbrev number_in : Field → ℕ
number_in absent = 0
number_in (number v) = nat_of v
number_in (list l) = 0

unequal : (n m : ℕ) → n ≡ m → (n ≡ m → ⊥) → ⊥
unequal n m e h = h e

unlike : (v w : Walk) → v ≡ w → (v.looked ≡ w.looked → ⊥) → ⊥
unlike v w e h = h (ap (λ (x : Walk). x.looked) e)

found_alike : (n m : ℕ) → stopped n ≡ passed m → ⊥
found_alike n m e = true≢false (ap (λ (x : Walk). x.found) e)

-- by computing
pub walk_runs_lem : WalkRuns
unfolding setup step conditions accepted mapped begun after_read cache_after only_at changed committed grant lapse advanced taken applied carried deleted meets updated change put_last fits32 outcome_refusal field_of field_after pushed ◌⇒◌ documents with_last with_exclusive lapses loses is_lost in_documents stays shows_it seen_away sets walk
walk_runs_lem =
    record {
      nothing = refl;
      six_kinds = refl;
      counts = refl;
      behind = refl;
      newer = (refl, refl);
      own_first = refl;
      sessions_next = (refl, refl);
      by_oldest = (refl, refl);
      by_newest = (refl, refl);
      by_own = (refl, refl);
      by_none = refl;
      walks = (refl, refl, refl, refl);
      asked = refl;
      deleted_since = refl;
      stray_inc = inc_fixes_none;
      stray_place = elsewhere_fixes_none;
      stray_soon = λ w. unlike _ _ (w.stops set_then_inc) (λ e. omega arith);
      stray_late = λ w. unlike _ _ (w.stops (record { older = set_it ∷ []; change = set_it; newer = []; split = refl; fixes = fixed; none_newer = tt })) (λ e. omega arith);
      stray_stop = λ w. found_alike _ _ (w.passes (inc_fixes_none, tt));
      stray_miss = λ w. found_alike _ _ (sym (w.stops set_then_inc));
      stray_few = λ w. unlike _ _ (w.passes (elsewhere_fixes_none, (inc_fixes_none, tt))) (λ e. omega arith);
      stray_own = λ w. unlike _ _ ((w (held (set_it ∷ []) ∷ []) [] origin).stops only_set) (λ e. omega arith);
      stray_buffered = λ w. unlike _ _ ((w [] (set_it ∷ []) origin).stops only_set) (λ e. omega arith);
      stray_own_oldest = λ w. unlike _ _ ((w (held (set_it ∷ []) ∷ []) (inc_it ∷ []) origin).stops set_then_inc) (λ e. omega arith);
      stray_oldest = λ w. unlike _ _ ((w [] (set_it ∷ inc_it ∷ []) origin).stops set_then_inc) (λ e. omega arith);
      stray_no_own = λ l. unequal 0 1 (ap first_kind (l [] (set_it ∷ []))) (λ e. omega arith);
      stray_own_last = λ l. unequal 1 3 (ap first_kind (l (held (set_it ∷ []) ∷ []) (inc_it ∷ []))) (λ e. omega arith);
      stray_sessions = λ l. unequal 1 3 (ap first_kind (l (held (set_it ∷ []) ∷ held (inc_it ∷ []) ∷ []) [])) (λ e. omega arith);
      stray_always = λ h. true≢false (h [] [] origin);
      stray_never = λ h. true≢false (sym (h [] (set_it ∷ []) origin));
      stray_finds_own = λ h. true≢false (sym (h (held (set_it ∷ []) ∷ []) [] origin));
      stray_finds_buffered = λ h. true≢false (sym (h [] (set_it ∷ []) origin));
      known_by = (refl, refl, refl, refl);
      stray_known_cached = λ k. true≢false (sym (k shows_origin [] [] (set_it ∷ []) origin));
      stray_known_walked = λ k. true≢false (sym (k shows_origin cached9 [] [] origin));
      stray_known_own = λ k. true≢false (sym (k shows_origin [] (held (set_it ∷ []) ∷ []) [] origin));
      stray_known_all = λ k. true≢false (k shows_origin [] [] [] origin);
      stray_too_soon = λ h. unequal 6 1 (ap number_in (h.since refl absent)) (λ e. omega arith);
      stray_unfound = λ h. unequal 6 1 (ap number_in (h.cached refl)) (λ e. omega arith);
      stray_seven = λ h. unequal 7 6 (ap number_in (h.since refl absent)) (λ e. omega arith);
      stray_nine = λ h. unequal 9 10 (ap number_in (h.cached refl)) (λ e. omega arith);
      sees = (refl, refl, refl, refl);
      stray_seen_cached = λ f. unequal 9 5 (ap number_in ((f shows_origin cached9 [] (set_it ∷ []) origin).since refl absent)) (λ e. omega arith);
      stray_seen_uncached = λ f. unequal 0 9 (ap number_in ((f shows_origin cached9 [] [] origin).cached refl)) (λ e. omega arith);
      stray_seen_before = λ f. unequal 9 5 (ap number_in ((f shows_origin cached9 (held (set_it ∷ []) ∷ []) [] origin).since refl absent)) (λ e. omega arith);
      found = (refl, refl, refl);
      eight = (refl, refl);
      stray_read_all = λ d. true≢false (sym (d.read_unknown (pos 1) (pos 1) (replicate 16 (pos 0)) refl));
      stray_read_none = λ d. true≢false (sym (d.read_known (pos 1) (pos 0) (replicate 16 (pos 0)) (2 ∷ []) refl));
      stray_read_one = λ d. true≢false (sym (d.read_known (pos 1) (pos 0) (replicate 16 (pos 0)) (2 ∷ []) refl));
      no_key = (refl, refl);
      stray_change_all = λ d. true≢false (d.change_unknown (pos 1) (pos 0) (pos 1) (pos (kind_number inc)) (pos 1) [] refl).1;
      stray_change_none = λ d. true≢false (sym (d.change_known (pos 1) (pos 0) (pos 0) (pos (kind_number inc)) (pos 1) [] (2 ∷ []) refl refl));
      stray_pending = λ d. true≢false (sym ((d (after three_deep setup) refl).change_known (pos 3) (pos 0) (pos 0) (pos (kind_number inc)) (pos 1) [] (3 ∷ []) refl refl));
      stray_not_own = λ d. true≢false (sym ((d (after keyless setup) refl).change_known (pos 1) (pos 0) (pos 0) (pos (kind_number inc)) (pos 1) [] (2 ∷ []) refl refl));
      stray_cached_only = λ d. true≢false (sym ((d (after keyless setup) refl).change_known (pos 1) (pos 0) (pos 0) (pos (kind_number inc)) (pos 1) [] (2 ∷ []) refl refl));
      stray_walked_only = λ d. true≢false (sym ((d (after cached_origin setup) refl).change_known (pos 1) (pos 0) (pos 0) (pos (kind_number inc)) (pos 1) [] (1 ∷ []) refl refl));
    }
