-- What the entry promises of a call on a plant that keeps the tables' rules: answer, words and plant are those of the rules' `step`, and the
-- plant left keeps the rules.
use Rattle.std.specs.Prelude.{◌≡◌, true, List, ℤ, Result}
use Rattle.rules.specs.Step.{step}
use Rattle.plant.specs.View.{view_plant, kept_plant}
use Rattle.plant.specs.declared.Plant.{Plant}
use Rattle.answers.specs.View.{view_answer}
use Rattle.answers.specs.declared.Answer.{Answer}
use Rattle.answers.specs.declared.Refusal.{Refusal}
use Rattle.calls.specs.View.{view_call}
use Rattle.calls.specs.declared.Call.{Call}

pub record Ran (c : Call) (lent : List ℤ) (p : Plant) (a : Result Answer Refusal) (words : List ℤ) (q : Plant) : Type 0 where
  pub answers : view_answer a ≡ (step (view_call c) lent (view_plant p)).answer
  pub fills : words ≡ (step (view_call c) lent (view_plant p)).words
  pub leaves : view_plant q ≡ (step (view_call c) lent (view_plant p)).plant
  pub keeps : kept_plant q ≡ true
