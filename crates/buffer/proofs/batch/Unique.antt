-- Two buffered sessions in form that show the same are equal, and two that are not in use.
use mathlib.Core.Path.{◌≡◌, refl, sym, ◌∙◌, ap}
use mathlib.Core.Bool.{true, ◌&&◌}
use mathlib.Core.List.{List, [], ◌∷◌}
use lib.Dec.{eqb}
use borrow.Author.Tests.{eqb-true}
use Rattle.rules.specs.Lists.{is_empty}
use Rattle.rules.specs.Changes as C
use Rattle.rules.specs.Tables as M
use Rattle.rules.proofs.Laws.{and_true}
use Rattle.changes.specs.View.{view_changes}
use Rattle.changes.specs.Form.{changes_form}
use Rattle.changes.proofs.Unique.{changes_unique}
use Rattle.buffer.specs.batch.View.{view_batch}
use Rattle.buffer.specs.batch.Form.{batch_form, is_unused}
use Rattle.buffer.specs.declared.batch.Batch.{Batch}

pub batch_unique : (a b : Batch) → batch_form a ≡ true → batch_form b ≡ true → view_batch a ≡ view_batch b → a ≡ b
unfolding view_batch batch_form
batch_unique a b f g e = λ i. record { number = (e i).number; changes = changes_unique a.changes b.changes f g (ap (λ (x : M.Batch). x.changes) e) i }

-- no changes are one list
none_unique : (x y : List C.Update) → is_empty x ≡ true → is_empty y ≡ true → x ≡ y
none_unique [] [] e f = refl
none_unique [] (u ∷ y) e f = absurd (mathlib.Core.Bool.true≢false (sym f))
none_unique (u ∷ x) y e f = absurd (mathlib.Core.Bool.true≢false (sym e))

pub unused_unique : (a b : Batch) → is_unused a ≡ true → is_unused b ≡ true → a ≡ b
unfolding is_unused
unused_unique a b f g =
    let x = and_true (eqb a.number 0 && is_empty (view_changes a.changes)) (changes_form a.changes) f in
    let y = and_true (eqb b.number 0 && is_empty (view_changes b.changes)) (changes_form b.changes) g in
    let p = and_true (eqb a.number 0) (is_empty (view_changes a.changes)) x.0 in
    let q = and_true (eqb b.number 0) (is_empty (view_changes b.changes)) y.0 in
    let n : a.number ≡ b.number = eqb-true a.number 0 p.0 ∙ sym (eqb-true b.number 0 q.0) in
    λ i. record { number = n i; changes = changes_unique a.changes b.changes x.1 y.1 (none_unique (view_changes a.changes) (view_changes b.changes) p.1 q.1) i }
