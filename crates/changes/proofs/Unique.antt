-- Two values in form that show the same are equal.
use mathlib.Core.Path.{◌≡◌, refl, sym, ◌∙◌, ap}
use mathlib.Core.Bool.{true, ◌&&◌}
use lib.Dec.{eqb}
use lib.IntN.{pos}
use borrow.Author.Tests.{eqb-true}
use Rattle.rules.specs.Values.{eq_z}
use Rattle.rules.specs.Changes as C
use Rattle.rules.proofs.Laws.{and_true, case_number}
use Rattle.rules.proofs.KeptTest.{eq_z_is}
use Rattle.keys.specs.Form.{is_blank}
use Rattle.keys.proofs.Unique.{place_unique, blank_unique}
use Rattle.lists.proofs.Forms.{table_unique}
use Rattle.changes.specs.View.{view_update, view_changes}
use Rattle.changes.specs.Form.{is_used, is_unused, changes_form}
use Rattle.changes.specs.declared.Update.{Update}
use Rattle.changes.specs.declared.Changes.{Changes}

update_unique : (a b : Update) → is_used a ≡ true → is_used b ≡ true → view_update a ≡ view_update b → a ≡ b
unfolding view_update is_used
update_unique a b f g e = λ i. record { place = q i; kind = n i; value = (e i).value }
  where
    q : a.place ≡ b.place
    q = place_unique a.place b.place (ap (λ (u : C.Update). u.at) e)

    n : a.kind ≡ b.kind
    n = sym (case_number C.kind_number C.pull C.kinds a.kind f) ∙ ap (λ (u : C.Update). C.kind_number u.kind) e ∙ case_number C.kind_number C.pull C.kinds b.kind g

none : Update
none = record { place = record { document = 0; field = 0 }; kind = 0; value = pos 0 }

unused_is : (a : Update) → is_unused a ≡ true → a ≡ none
unfolding is_unused none is_blank
unused_is a f = λ i. record { place = blank_unique a.place none.place y.0 refl i; kind = eqb-true a.kind 0 y.1 i; value = eq_z_is a.value (pos 0) x.1 i }
  where
    x : (is_blank a.place && eqb a.kind 0 ≡ true) × (eq_z a.value (pos 0) ≡ true)
    x = and_true (is_blank a.place && eqb a.kind 0) (eq_z a.value (pos 0)) f

    y : (is_blank a.place ≡ true) × (eqb a.kind 0 ≡ true)
    y = and_true (is_blank a.place) (eqb a.kind 0) x.0

pub changes_unique : (a b : Changes) → changes_form a ≡ true → changes_form b ≡ true → view_changes a ≡ view_changes b → a ≡ b
unfolding view_changes changes_form
changes_unique a b f g e = λ i. record { count = both.0 i; items = both.1 i }
  where
    both : (a.count ≡ b.count) × (a.items ≡ b.items)
    both = table_unique 8 is_used is_unused view_update update_unique (λ u v x y. unused_is u x ∙ sym (unused_is v y)) none a.count b.count a.items b.items f g e
