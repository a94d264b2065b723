-- What sweep removes, answers and leaves, one law for each way out.
use mathlib.Core.Path.{◌≡◌, refl, ◌∙◌}
use mathlib.Core.Bool.{Bool, true, false, not}
use mathlib.Core.List.{List, [], ◌∷◌, ◌++◌, map}
use Prim.Native.Nat.{ℕ, ◌<◌}
use native.Mathlib.Omega.{arith}
use lib.IntN.{ℤ}
use lib.ListN.{length, take, length-map, length-take}
use Rattle.rules.specs.Limits.{row_limit, sweep_limit}
use Rattle.rules.specs.Lists.{has, keep, pushed}
use Rattle.rules.specs.Refusals.{store_away, ◌⇒◌}
use Rattle.rules.specs.Tables as M
use Rattle.rules.specs.Calls.{Sweep, refused, fine}
use Rattle.rules.specs.Calls as C
use Rattle.rules.specs.Conditions.{conditions}
use Rattle.rules.specs.Effects.{swept}
use Rattle.rules.specs.Step.{accepted}
use Rattle.rules.proofs.Laws.{pushed_room}
use Rattle.std.specs.List.{filter}
use Rattle.std.proofs.lemmas.List.{map-append, map-id}
use Rattle.lists.specs.Table.{counted}
use Rattle.promises.specs.Promise.{result, Performs}
use Rattle.promises.proofs.Telling.{refuses, accepts, none_held, left_accepted}
use Rattle.rows.specs.View.{view_rows, rows_form}
use Rattle.rows.specs.declared.Rows.{Rows}
use Rattle.buffer.specs.View.{view_buffer}
use Rattle.workers.specs.View.{view_hands}
use Rattle.plant.specs.View.{view_plant, kept_plant, plant_form}
use Rattle.plant.specs.With.{with_rows}
use Rattle.plant.specs.declared.Plant.{Plant}
use Rattle.plant.proofs.Formed.{form_with_rows}

-- ── what is removed ──
-- one more, where those so far are fewer than a sweep removes
pub one_more : {A : Type 0} (f : A → ℕ) (xs : List A) (x : A) {l r : List ℕ} → l ≡ map f xs → (m : List ℕ) → length xs < length (take sweep_limit m) → r ≡ pushed row_limit l (f x) → r ≡ map f (xs ++ (x ∷ []))
one_more f xs x e m h g =
    let k : length (map f xs) < row_limit = rw (length-map xs f) (omega (arith, length-take sweep_limit m)) in
    g ∙ rw (e, pushed_room row_limit (map f xs) (f x) k, map-append f xs (x ∷ []))

filter_is : (p : ℕ → Bool) (l : List ℕ) → filter p l ≡ keep p l
filter_is p [] = refl
filter_is p (n ∷ l) = rw (filter_is p l)

pub all_removed : (rows : Rows) (p : ℕ → Bool) {l r : List ℕ} → r ≡ l → l ≡ take sweep_limit (filter p (take rows.count rows.numbers)) → r ≡ take sweep_limit (keep p (view_rows rows))
unfolding view_rows counted
all_removed rows p e h = e ∙ h ∙ rw (map-id rows.numbers, filter_is p (take rows.count rows.numbers))

-- ── what is answered ──
module _ (p : Plant) (lent : List ℤ) (kept : kept_plant p ≡ true) where
  abbrev Answered : C.Answer → Type 0
  Answered a = a ≡ (result Sweep lent p).answer

  pub away : not p.near ≡ true → Answered (refused store_away)
  unfolding conditions view_plant ◌⇒◌
  away h = refuses Sweep lent (view_plant p) _ (rw h refl)

  pub removed_told : not p.near ≡ false → (l : Rows) → view_rows l ≡ take sweep_limit (keep (M.unneeded (view_buffer p.buffer) (view_hands p.hands)) (view_rows p.rows))
      → (n : ℕ) → n ≡ length (view_rows l) → Answered (fine (n ∷ []))
  unfolding conditions view_plant ◌⇒◌ accepted
  removed_told h l el n en = rw (en, el) (accepts Sweep lent (view_plant p) (rw h refl))

-- ── the plant left ──
module _ (p : Plant) (l : Rows) (el : view_rows l ≡ take sweep_limit (keep (M.unneeded (view_buffer p.buffer) (view_hands p.hands)) (view_rows p.rows)))
    (r : Rows) (er : view_rows r ≡ keep (λ n. not (has n (view_rows l))) (view_rows p.rows)) where
  pub rows_left_lem : Performs Sweep p (with_rows p r)
  unfolding conditions view_plant accepted swept
  rows_left_lem kept lent h =
      let m = none_held Sweep lent (view_plant p) _ refl h in
      rw (er, el) refl ∙ left_accepted Sweep lent (view_plant p) m

  pub left_form : rows_form r ≡ true → plant_form p ≡ true → plant_form (with_rows p r) ≡ true
  left_form fr = form_with_rows p r (λ x. fr)
