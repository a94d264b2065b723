-- What the two functions of a call promise, for every plant that keeps the tables' rules: `answer` gives what the rules' `step` answers, and with the
-- tables that `after` gives for an accepted call the plant is that of `step`; and what is promised of the plant that any call leaves, refused or not.
use Rattle.std.specs.Prelude.{◌≡◌, true, false, List, ℤ, Result}
use Rattle.rules.specs.Calls as C
use Rattle.rules.specs.Calls.{Call}
use Rattle.rules.specs.Step.{step}
use Rattle.plant.specs.View.{view_plant, kept_plant}
use Rattle.plant.specs.declared.Plant.{Plant}
use Rattle.answers.specs.View.{view_answer, is_refused}
use Rattle.answers.specs.declared.Answer.{Answer}
use Rattle.answers.specs.declared.Refusal.{Refusal}

-- the rules' result of a call
abbrev pub result : Call → List ℤ → Plant → C.Result
result c lent p = step c lent (view_plant p)

abbrev pub Answers : Call → List ℤ → Plant → Result Answer Refusal → Type 0
Answers c lent p a = kept_plant p ≡ true → view_answer a ≡ (result c lent p).answer

-- a is what the call answers
abbrev pub Leaves : Call → Plant → Result Answer Refusal → Plant → Type 0
Leaves c p a q = kept_plant p ≡ true → (lent : List ℤ) → view_answer a ≡ (result c lent p).answer → view_plant q ≡ (result c lent p).plant

-- the plant that the call leaves where it is accepted
abbrev pub Performs : Call → Plant → Plant → Type 0
Performs c p q = kept_plant p ≡ true → (lent : List ℤ) → is_refused (result c lent p).answer ≡ false → view_plant q ≡ (result c lent p).plant

-- it keeps the tables' rules. This follows from `Leaves` and from that the plant's form is kept (`proofs/Keeping`, `leaves_keep`)
abbrev pub Keeps : Call → Plant → Result Answer Refusal → Plant → Type 0
Keeps c p a q = kept_plant p ≡ true → (lent : List ℤ) → view_answer a ≡ (result c lent p).answer → kept_plant q ≡ true
