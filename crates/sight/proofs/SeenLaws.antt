-- Reading through the tables' views: one law for each way out of a function.
use Prim.Native.Nat.{ℕ}
use mathlib.Core.Path.{◌≡◌, refl, ◌∙◌, ap, sym}
use mathlib.Core.Bool.{Bool, true, false, ◌||◌}
use mathlib.Core.List.{List, ◌++◌, append_assoc}
use lib.ListN.{take, drop, take-append-drop}
use Rattle.std.specs.Prelude.{Option, Some, None, is_some}
use Rattle.rules.specs.Lists.{any}
use Rattle.rules.specs.Values.{Place, Field, Stock}
use Rattle.rules.specs.Changes.{Update, run, follow, sets_it}
use Rattle.rules.specs.Tables.{Cached, Batch, changes_in}
use Rattle.rules.specs.Reading.{shows_it, cached_field, known_away, seen_away, walk_back}
use Rattle.rules.specs.Reading as R
use Rattle.rules.proofs.Laws.{run_append}
use Rattle.rules.proofs.KeptTables.{flat_append}
use Rattle.rules.proofs.Walks.{known_by_walk_lem, seen_since, seen_cached_lem}
use Rattle.sight.specs.walk.View.{view_walk, Since}
use Rattle.sight.specs.declared.walk.Walk.{Walk}

-- from the field of a stock the promise of `seen` is the stock followed by both: what a session sees by the rules, where it is the store
pub seen_is : (s : Stock) (cs own : List Update) (q : Place) {f r : Field} → r ≡ run own q (run cs q f) → f ≡ s q → r ≡ follow (follow s cs) own q
seen_is s cs own q h e = h ∙ ap (λ (x : Field). run own q (run cs q x)) e

pub run_from : (cs : List Update) (q : Place) {f g r : Field} → r ≡ run cs q f → f ≡ g → r ≡ run cs q g
run_from cs q h e = h ∙ ap (run cs q) e

module _ (keys : ℕ → List Place) (cache : List Cached) (buffer : List Batch) (own : List Update) (q : Place) {a : Bool} (x : a ≡ any (shows_it keys q) cache) where
  pub known_cached : a ≡ true → true ≡ known_away keys cache buffer own q
  known_cached e = rw (← x, e) refl

  pub known_walked : (w : Walk) → a ≡ false → view_walk w ≡ walk_back buffer own q → {b : Bool} → b ≡ is_some w.found → b ≡ known_away keys cache buffer own q
  unfolding view_walk
  known_walked w e h k = k ∙ ap (λ (r : R.Walk). r.found) h ∙ sym (known_by_walk_lem keys cache buffer own q ∙ ap (λ b. b || (walk_back buffer own q).found) (sym x ∙ e))

module _ (keys : ℕ → List Place) (cache : List Cached) (buffer : List Batch) (own : List Update) (q : Place) (w : Walk) {f r : Field} (h : r ≡ run own q f) where
  -- from the session on in which the walk stopped, whatever the field was before
  pub seen_found : (g : Field) (from : ℕ) → w.found ≡ Some from → Since buffer own q w → f ≡ run (changes_in (drop from buffer)) q g → r ≡ seen_away keys cache buffer own q
  seen_found g from e s k =
      let since : sets_it (changes_in (drop from buffer) ++ own) q ≡ true = rw e at s in
      run_from own q h k
      ∙ sym (seen_since keys cache buffer own q (changes_in (take from buffer)) (changes_in (drop from buffer) ++ own)
      (ap (λ l. changes_in l ++ own) (sym (take-append-drop from buffer)) ∙ ap (λ l. l ++ own) (flat_append (take from buffer) (drop from buffer))
      ∙ append_assoc (changes_in (take from buffer)) (changes_in (drop from buffer)) own)
      since g ∙ run_append (changes_in (drop from buffer)) own q g)

  pub seen_shown : w.found ≡ None → view_walk w ≡ walk_back buffer own q → f ≡ cached_field keys q cache → r ≡ seen_away keys cache buffer own q
  unfolding view_walk
  seen_shown e v k = run_from own q h k ∙ sym (seen_cached_lem keys cache buffer own q (ap (λ (x : R.Walk). x.found) (sym v) ∙ ap is_some e))
