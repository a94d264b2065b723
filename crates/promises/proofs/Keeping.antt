-- The plant that a call leaves keeps the tables' rules.
use mathlib.Core.Path.{◌≡◌, sym, ◌∙◌, ap}
use mathlib.Core.Bool.{Bool, true, false}
use mathlib.Core.List.{List}
use lib.IntN.{ℤ}
use Rattle.std.specs.Prelude.{Result}
use Rattle.rules.specs.Calls.{Call}
use Rattle.rules.specs.Step.{step}
use Rattle.rules.specs.Kept.{kept}
use Rattle.rules.proofs.Laws.{and_true, both}
use Rattle.rules.proofs.KeptTest.{kept_step}
use Rattle.plant.specs.View.{view_plant, plant_form, kept_plant}
use Rattle.plant.specs.declared.Plant.{Plant}
use Rattle.answers.specs.declared.Answer.{Answer}
use Rattle.answers.specs.declared.Refusal.{Refusal}
use Rattle.answers.specs.View.{view_answer, is_refused}
use Rattle.promises.specs.Promise.{Leaves, Performs, Keeps}

-- a plant in form that is seen as what a call leaves keeps the rules
pub kept_left : (c : Call) (lent : List ℤ) (p q : Plant) → view_plant q ≡ (step c lent (view_plant p)).plant → kept_plant p ≡ true → plant_form q ≡ true → kept_plant q ≡ true
unfolding kept_plant
kept_left c lent p q e k f =
    let h = (and_true (plant_form p) (kept (view_plant p)) k).1 in
    both (plant_form q) (kept (view_plant q)) f (ap kept e ∙ kept_step c lent (view_plant p) h)

-- so does the plant that a call leaves, whichever it is
pub leaves_keep : (c : Call) (p q : Plant) (a : Result Answer Refusal) → Leaves c p a q → (plant_form p ≡ true → plant_form q ≡ true) → Keeps c p a q
unfolding kept_plant
leaves_keep c p q a l f k lent e = kept_left c lent p q (l k lent e) k (f (and_true (plant_form p) (kept (view_plant p)) k).0)

-- the three promises of that plant
pub and_keeps : (c : Call) (p q : Plant) (a : Result Answer Refusal) → Leaves c p a q → (plant_form p ≡ true → plant_form q ≡ true) → Leaves c p a q × ((plant_form p ≡ true → plant_form q ≡ true) × Keeps c p a q)
and_keeps c p q a l f = (l, (f, leaves_keep c p q a l f))

-- the same of the plant that an accepted call leaves
pub performed : (c : Call) (p q : Plant) (a : Result Answer Refusal) (r : Bool) → r ≡ is_refused (view_answer a) → r ≡ false → Performs c p q → (plant_form p ≡ true → plant_form q ≡ true)
    → Leaves c p a q × ((plant_form p ≡ true → plant_form q ≡ true) × Keeps c p a q)
performed c p q a r er h l f = and_keeps c p q a (λ k lent ea. l k lent (ap is_refused (sym ea) ∙ (sym er ∙ h))) f
