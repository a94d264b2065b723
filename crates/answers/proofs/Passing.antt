-- What a call answers that passes a refusal on by `?`; q is what it has to answer.
use mathlib.Core.Path.{◌≡◌, ◌∙◌, ap}
use Rattle.std.specs.Prelude.{Option, Some, None, Result, Ok, Err}
use Rattle.std.specs.Option.{ok_or}
use Rattle.std.specs.Result.{IsErrAnd}
use Rattle.rules.specs.Calls as C
use Rattle.answers.specs.View.{view_refusal, view_answer}
use Rattle.answers.specs.declared.Answer.{Answer}
use Rattle.answers.specs.declared.Refusal.{Refusal}

module _ (r : Result Answer Refusal) (q : C.Answer) where
  -- x is the refusal of what it calls
  pub passed_on : (x : Refusal) → IsErrAnd r (λ y. y ≡ x) → C.refused (view_refusal x) ≡ q → view_answer r ≡ q
  passed_on x h e = go r h ∙ e
    where
      go : (r : Result Answer Refusal) → IsErrAnd r (λ y. y ≡ x) → view_answer r ≡ C.refused (view_refusal x)
      go (Ok a) h = absurd h
      go (Err y) h = ap (λ z. C.refused (view_refusal z)) h

  -- x is named by `ok_or` for a value that there is not
  pub passed_or : {B : Type 0} (o : Option B) (x y : Refusal) → Err y ≡ ok_or o x → IsErrAnd r (λ z. z ≡ y) → C.refused (view_refusal x) ≡ q → view_answer r ≡ q
  passed_or None x y n h e = let i : y ≡ x = cc in passed_on y h (rw i e)
  passed_or (Some b) x y n h e = cc
