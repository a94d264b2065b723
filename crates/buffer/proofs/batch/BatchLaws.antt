-- A buffered session through its view: one law for each way out of a method.
use Prim.Native.Nat.{ℕ}
use mathlib.Core.Path.{◌≡◌, refl, sym, ◌∙◌}
use mathlib.Core.Bool.{Bool, true, false, not}
use mathlib.Core.List.{List, []}
use borrow.Author.Tests.{not-true, not-false}
use Rattle.rules.specs.Lists.{has}
use Rattle.rules.specs.Values as S
use Rattle.rules.specs.Changes as C
use Rattle.rules.proofs.Words.{run_untouched}
use Rattle.lists.proofs.Views.{either}
use Rattle.changes.specs.View.{view_changes}
use Rattle.changes.specs.Form.{changes_form}
use Rattle.changes.specs.declared.Changes.{Changes}
use Rattle.buffer.specs.batch.View.{view_batch, carry}
use Rattle.buffer.specs.batch.Form.{is_unused}
use Rattle.buffer.specs.declared.batch.Batch.{Batch}

pub unused_is : (cs : Changes) → view_changes cs ≡ [] → changes_form cs ≡ true → is_unused (record { number = 0; changes = cs }) ≡ true
unfolding is_unused
unused_is cs n e = rw (n, e)

-- a session without a change at the place leaves its field, whether the store has it or not
pub carried_past : (b : Batch) (rows : List ℕ) (q : S.Place) (f : S.Field) {t : Bool} → t ≡ C.touches (view_changes b.changes) q → t ≡ false → f ≡ carry rows q f (view_batch b)
unfolding carry view_batch
carried_past b rows q f a e = rw (run_untouched (view_changes b.changes) q f (sym a ∙ e)) (either (has b.number rows) f)

module _ (b : Batch) (rows : List ℕ) (q : S.Place) (f : S.Field) {t : Bool} (a : t ≡ has b.number rows) where
  pub carried_row : not t ≡ false → f ≡ carry rows q f (view_batch b)
  unfolding carry view_batch
  carried_row e = rw (← a, not-false t e) refl

  pub carried_now : {r : S.Field} → not t ≡ true → r ≡ C.run (view_changes b.changes) q f → r ≡ carry rows q f (view_batch b)
  unfolding carry view_batch
  carried_now e h = h ∙ rw (← a, not-true t e) refl
