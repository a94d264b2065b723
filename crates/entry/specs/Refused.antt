-- What a refused call leaves of any plant, whether it keeps the tables' rules or not: the plant itself, and where the refusal ends a session
-- all tables but the sessions.
use Rattle.std.specs.Prelude.{◌≡◌, true, false, Result}
use Rattle.plant.specs.With.{with_sessions}
use Rattle.plant.specs.declared.Plant.{Plant}
use Rattle.answers.specs.View.{view_answer, is_refused, is_ending}
use Rattle.answers.specs.declared.Answer.{Answer}
use Rattle.answers.specs.declared.Refusal.{Refusal}

pub record RefusalLeaves (p : Plant) (a : Result Answer Refusal) (q : Plant) : Type 0 where
  pub unchanged : is_refused (view_answer a) ≡ true → is_ending (view_answer a) ≡ false → q ≡ p
  pub others : is_ending (view_answer a) ≡ true → q ≡ with_sessions p q.sessions
