-- The plant that a refused call leaves: as it was, or without the caller's session.
use mathlib.Core.Path.{◌≡◌, sym, ◌∙◌}
use mathlib.Core.Bool.{Bool, true, false}
use Rattle.std.specs.Prelude.{Result}
use Rattle.rules.specs.Calls.{Call}
use Rattle.rules.specs.Step.{session_of, ending}
use Rattle.plant.specs.View.{view_plant, kept_plant}
use Rattle.plant.specs.declared.Plant.{Plant}
use Rattle.answers.specs.View.{view_answer, is_refused, is_ending}
use Rattle.answers.specs.declared.Answer.{Answer}
use Rattle.answers.specs.declared.Refusal.{Refusal}
use Rattle.promises.specs.Promise.{Leaves}
use Rattle.promises.proofs.Telling.{left_stays, left_ended}

module _ (c : Call) (p : Plant) (a : Result Answer Refusal) (e : Bool) (ee : e ≡ is_ending (view_answer a)) where
  pub stays : (r : Bool) → r ≡ is_refused (view_answer a) → e ≡ false → r ≡ true → Leaves c p a p
  stays r er g h k lent ea = left_stays c lent (view_plant p) (view_answer a) ea (sym er ∙ h) (sym ee ∙ g)

  pub ends : e ≡ true → (q : Plant) → (kept_plant p ≡ true → view_plant q ≡ ending (session_of c) (view_plant p)) → Leaves c p a q
  ends h q eq k lent ea = eq k ∙ left_ended c lent (view_plant p) (view_answer a) ea (sym ee ∙ h)
