-- What a call answers and what it leaves, as the one promise of the entry.
use mathlib.Core.Path.{◌≡◌}
use mathlib.Core.Bool.{true}
use mathlib.Core.List.{List}
use lib.IntN.{ℤ}
use Rattle.plant.specs.View.{kept_plant}
use Rattle.plant.specs.declared.Plant.{Plant}
use Rattle.std.specs.Prelude.{Result}
use Rattle.answers.specs.declared.Answer.{Answer}
use Rattle.answers.specs.declared.Refusal.{Refusal}
use Rattle.calls.specs.View.{view_call}
use Rattle.calls.specs.declared.Call.{Call}
use Rattle.promises.specs.Promise.{result, Answers, Leaves, Keeps}
use Rattle.entry.specs.Ran.{Ran}

pub ran : (c : Call) (lent ws : List ℤ) (p q : Plant) (a : Result Answer Refusal) → Answers (view_call c) lent p a → (kept_plant p ≡ true → ws ≡ (result (view_call c) lent p).words)
    → Leaves (view_call c) p a q → Keeps (view_call c) p a q → kept_plant p ≡ true → Ran c lent p a ws q
ran c lent ws p q a answers fills leaves keeps k =
    record {
      answers = answers k;
      fills = fills k;
      leaves = leaves k lent (answers k);
      keeps = keeps k lent (answers k);
    }
