-- What the rules' change of a field says of the refusal that is met.
use mathlib.Core.Path.{◌≡◌, refl, ◌∙◌, ap}
use mathlib.Core.Option.{none, some}
use mir.Syntax.{w32}
use mir.Val.{SFits}
use mir.Facts.{to_z-of_z}
use Rattle.std.specs.Prelude.{Result, Ok, Err}
use Rattle.std.specs.Result.{IsErrAnd}
use Rattle.rules.specs.Changes.{kind_of, change, meets, outcome_refusal, becomes, fails}
use Rattle.field.specs.View.{view_field, view_misfit}
use Rattle.field.specs.declared.Field.{Field}
use Rattle.field.specs.declared.Misfit.{Misfit}
use Rattle.field.proofs.Signed.{held}
use Rattle.changes.specs.View.{view_update}
use Rattle.changes.specs.declared.Update.{Update}
use Rattle.answers.specs.View.{view_refusal, refusal_met}
use Rattle.answers.specs.declared.Refusal.{Refusal}

module _ (c : Update) (f : Field) (w : SFits w32 c.value) where
  pub none_met : (g : Field) → becomes (view_field g) ≡ change (kind_of c.kind) (held c.value) (view_field f) → none ≡ meets (view_update c) (view_field f)
  unfolding meets outcome_refusal view_update
  none_met g e = ap outcome_refusal (e ∙ rw (to_z-of_z w) refl)

  pub some_met : (m : Misfit) → fails (view_misfit m) ≡ change (kind_of c.kind) (held c.value) (view_field f)
      → (r : Result (Unit {0}) Refusal) → IsErrAnd r (λ e. view_refusal e ≡ view_misfit m) → refusal_met r ≡ meets (view_update c) (view_field f)
  unfolding meets outcome_refusal view_update
  some_met m e (Ok u) h = absurd h
  some_met m e (Err r) h = ap some h ∙ ap outcome_refusal (e ∙ rw (to_z-of_z w) refl)
