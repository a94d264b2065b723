-- A refusal is any call's own answer.
use mathlib.Core.Path.{◌≡◌, refl, sym}
use mathlib.Core.Bool.{true, true≢false}
use Rattle.std.specs.Prelude.{Result, Ok, Err}
use Rattle.rules.specs.Calls.{Call}
use Rattle.answers.specs.View.{view_answer, is_refused}
use Rattle.answers.specs.Own.{is_answer_of}
use Rattle.answers.specs.declared.Answer.{Answer}
use Rattle.answers.specs.declared.Refusal.{Refusal}

pub refused_own : (c : Call) (a : Result Answer Refusal) → is_refused (view_answer a) ≡ true → is_answer_of c a ≡ true
refused_own c (Err r) h = refl
refused_own c (Ok a) h = absurd (true≢false (sym h))
