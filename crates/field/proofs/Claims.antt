-- What other crates use: one form a value, values that the rules know, and what a change answers.
use mathlib.Core.Path.{◌≡◌, refl, sym, ◌∙◌, ap}
use mathlib.Core.Bool.{true, false}
use mathlib.Core.List.{List, [], ◌∷◌, map-id}
use Prim.Native.Nat.{ℕ}
use lib.IntN.{ℤ, pos, negsuc}
use lib.ListN.{length, take}
use mir.Syntax.{w32}
use mir.Val.{SFits}
use mir.Facts.{to_z-of_z}
use Rattle.std.specs.Prelude.{Result, Ok, Err, IfOk}
use Rattle.std.specs.Result.{result_unwrap_or}
use Rattle.rules.proofs.KeptTest.{eq_z_is}
use Rattle.rules.specs.Limits.{member_limit}
use Rattle.rules.specs.Values.{eq_z, fits32, kind_of_field, values_of}
use Rattle.rules.specs.Changes.{Kind, change, field_of}
use Rattle.lists.specs.Table.{counted, table_form}
use Rattle.lists.proofs.Forms.{form_parts, table_same}
use Rattle.field.specs.declared.Field.{Field}
use Rattle.field.specs.declared.Misfit.{Misfit}
use Rattle.field.specs.View.{view_field, view_changed, field_form}
use Rattle.field.proofs.Signed.{held}
use Rattle.field.proofs.ViewLaws.{members, first_values, Form, form_of}

-- ── two fields in form that are seen as one value are equal ──
abbrev made : ℕ → ℕ → List ℤ → Field
made k n l = record { kind = k; count = n; values = l }

same_parts : (f g : Field) → f.kind ≡ g.kind → f.count ≡ g.count → f.values ≡ g.values → f ≡ g
same_parts f g a b c = let e : made f.kind f.count f.values ≡ made g.kind g.count g.values = rw (a, b, c) in e

module _ {f : Field} (h : Form f) where
  form_long : length f.values ≡ member_limit
  form_long = (form_parts member_limit fits32 (eq_z (pos 0)) f.count f.values h.table).long

  form_values : counted (λ x. x) f.count f.values ≡ members f
  unfolding counted
  form_values = ap (take f.count) (map-id f.values) ∙ ap (λ (n : ℕ). take n f.values) h.count ∙ first_values f form_long

pub field_unique : (f g : Field) → field_form f ≡ true → field_form g ≡ true → view_field f ≡ view_field g → f ≡ g
field_unique f g h k e =
    let a = form_of h in
    let b = form_of k in
    let n : f.count ≡ g.count = a.count ∙ rw e (sym b.count) in
    let t : table_form member_limit fits32 (eq_z (pos 0)) f.count g.values ≡ true = rw n b.table in
    let s : counted (λ x. x) f.count f.values ≡ counted (λ x. x) f.count g.values = form_values a ∙ ap values_of e ∙ sym (rw n (form_values b)) in
    same_parts f g (a.kind ∙ ap kind_of_field e ∙ sym b.kind) n
    (table_same member_limit fits32 (eq_z (pos 0)) (λ x. x) (λ x y p q r. r) (λ x y p q. sym (eq_z_is (pos 0) x p) ∙ eq_z_is (pos 0) y q) (pos 0) f.count f.values g.values a.table t s)

-- ── what a caller of `changed` has who keeps the field at a refusal: the field of the rules' outcome, in form ──
kept : (f : Field) (r : Result Field Misfit) → view_field (result_unwrap_or r f) ≡ field_of (view_changed r) (view_field f)
unfolding field_of
kept f (Ok g) = refl
kept f (Err m) = refl

pub kept_field : (f : Field) (r : Result Field Misfit) (k : Kind) (v : ℤ) → SFits w32 v → view_changed r ≡ change k (held v) (view_field f) → view_field (result_unwrap_or r f) ≡ field_of (change k v (view_field f)) (view_field f)
kept_field f r k v w e = kept f r ∙ rw (e, to_z-of_z w)

pub kept_form : (f : Field) (r : Result Field Misfit) → IfOk r (λ g. field_form f ≡ true → field_form g ≡ true) → field_form f ≡ true → field_form (result_unwrap_or r f) ≡ true
kept_form f (Ok g) h e = h e
kept_form f (Err m) h e = e

-- ── the form computes ──
two_members : field_form (record { kind = 2; count = 2; values = pos 7 ∷ negsuc 0 ∷ pos 0 ∷ pos 0 ∷ pos 0 ∷ pos 0 ∷ [] }) ≡ true
unfolding field_form view_field table_form fits32
two_members = refl

left_behind : field_form (record { kind = 2; count = 2; values = pos 7 ∷ negsuc 0 ∷ pos 5 ∷ pos 0 ∷ pos 0 ∷ pos 0 ∷ [] }) ≡ false
unfolding field_form view_field table_form fits32
left_behind = refl

seven_counted : field_form (record { kind = 2; count = 7; values = pos 1 ∷ pos 2 ∷ pos 3 ∷ pos 4 ∷ pos 5 ∷ pos 6 ∷ [] }) ≡ false
unfolding field_form view_field table_form fits32
seven_counted = refl

odd_kind : field_form (record { kind = 3; count = 0; values = pos 0 ∷ pos 0 ∷ pos 0 ∷ pos 0 ∷ pos 0 ∷ pos 0 ∷ [] }) ≡ false
unfolding field_form view_field table_form fits32
odd_kind = refl
