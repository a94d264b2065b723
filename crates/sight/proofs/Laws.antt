-- What is known and seen, with the store near and away.
use Prim.Native.Nat.{ℕ}
use mathlib.Core.Path.{◌≡◌, refl, ◌∙◌}
use mathlib.Core.Bool.{Bool, true, false, not, ◌||◌}
use mathlib.Core.List.{List}
use borrow.Author.Tests.{not-true, not-false}
use Rattle.rules.specs.Values.{Place, in_range, Field, Stock}
use Rattle.rules.specs.Changes.{Update, run}
use Rattle.rules.specs.Tables.{Cached, Batch, pending, changes_in}
use Rattle.rules.specs.Reading.{seen, seen_away, known}
use Rattle.rules.proofs.Away.{value_is}
use Rattle.sight.proofs.SeenLaws.{seen_is}
use Rattle.plant.specs.View.{view_plant, kept_plant}
use Rattle.plant.specs.declared.Plant.{Plant}
use Rattle.plant.proofs.PlantLaws.{kept_parts}
use Rattle.sight.specs.Value.{value_by, value}

module _ (near x : Bool) where
  pub known-away : not near ≡ true → (b : Bool) → b ≡ x → b ≡ near || x
  known-away n b e = e ∙ rw (not-true near n) refl

  pub known_near : not near ≡ false → true ≡ near || x
  known_near n = rw (not-false near n) refl

module _ (near : Bool) (store : Stock) (keys : ℕ → List Place) (cache : List Cached) (buffer : List Batch) (rows : List ℕ) (own : List Update) (q : Place) where
  pub value_near : near ≡ true → (s f : Field) → s ≡ store q → f ≡ run own q (run (changes_in (pending rows buffer)) q s) → f ≡ value_by near store keys cache buffer rows own q
  value_near n s f es e = seen_is store (changes_in (pending rows buffer)) own q e es ∙ rw n refl

  pub value_away : near ≡ false → (f : Field) → f ≡ seen_away keys cache buffer own q → f ≡ value_by near store keys cache buffer rows own q
  value_away n f e = e ∙ rw n refl

-- on a kept plant, what is known is found as it is
pub value-seen : (p : Plant) (own : List Update) (q : Place) → kept_plant p ≡ true → in_range q ≡ true → known (view_plant p) own q ≡ true → value (view_plant p) own q ≡ seen (view_plant p) own q
value-seen p own q k r = value_is (view_plant p) own q (kept_parts p k) r
