-- What is seen of a field, kind by kind, and what its form says.
use mathlib.Core.Path.{◌≡◌, refl, ap}
use mathlib.Core.Bool.{true}
use mathlib.Core.List.{List, []}
use Prim.Native.Nat.{◌≤◌}
use native.Mathlib.Omega.{arith}
use lib.Dec.{eqb}
use lib.IntN.{ℤ, pos}
use lib.ListN.{length, get_or, take, drop, length-take, take-append-drop}
use lib.Seq.{take-suc, take_at}
use borrow.Author.Tests.{eqb-true, eqb-false, eq-eqb, ne_eqb}
use Rattle.rules.proofs.Laws.{by_case, and_true, both}
use Rattle.rules.specs.Limits.{member_limit}
use Rattle.rules.specs.Values as S
use Rattle.rules.specs.Values.{eq_z, fits32, kind_of_field, values_of}
use Rattle.lists.specs.Table.{table_form}
use Rattle.field.specs.declared.Field.{Field}
use Rattle.field.specs.View.{view_field, field_form}

-- the values that count
abbrev pub members : Field → List ℤ
members f = values_of (view_field f)

module _ (f : Field) where
  pub view_absent : f.kind ≡ 0 → view_field f ≡ S.absent
  unfolding view_field
  view_absent h = rw h refl

  pub view_number_lem : f.kind ≡ 1 → view_field f ≡ S.number (get_or f.values 0 (pos 0))
  unfolding view_field
  view_number_lem h = rw h refl

  pub view_list : (f.kind ≡ 0 → ⊥) → (f.kind ≡ 1 → ⊥) → view_field f ≡ S.list (take f.count f.values)
  unfolding view_field
  view_list n m = simp (ne_eqb _ _ n, ne_eqb _ _ m)

  pub by_kind : {P : Type 0} → (f.kind ≡ 0 → P) → (f.kind ≡ 1 → P) → ((f.kind ≡ 0 → ⊥) → (f.kind ≡ 1 → ⊥) → P) → P
  by_kind a b c =
      by_case (eqb f.kind 0) (λ t. a (eqb-true _ _ t))
      (λ t. by_case (eqb f.kind 1) (λ u. b (eqb-true _ _ u)) (λ u. c (eqb-false _ _ t) (eqb-false _ _ u)))

  -- the values that count, as the code takes them
  pub take_none : f.kind ≡ 0 → [] ≡ members f
  take_none h = rw (view_absent h) refl

  pub take_one : length f.values ≡ member_limit → f.kind ≡ 1 → take 1 f.values ≡ members f
  take_one l h = rw (view_number_lem h) (take-suc f.values 0 (pos 0) (omega arith))

  pub take_count : (f.kind ≡ 0 → ⊥) → (f.kind ≡ 1 → ⊥) → take f.count f.values ≡ members f
  take_count n m = rw (view_list n m) refl

  -- they are the first, and at most all of them
  module _ (l : length f.values ≡ member_limit) where
    pub first_values : take (length (members f)) f.values ≡ members f
    first_values =
        by_kind (λ a. rw (view_absent a) refl)
        (λ b. rw (view_number_lem b) (take-suc f.values 0 (pos 0) (omega arith)))
        (λ n m. rw (view_list n m)
        (rw (take-append-drop f.count f.values) at (take_at (take f.count f.values) (drop f.count f.values) _ refl)))

    pub few : length (members f) ≤ member_limit
    few = omega (arith, simp length-take at (ap length first_values))

-- ── the form ──
pub record Form (f : Field) : Type 0 where
  pub kind : f.kind ≡ kind_of_field (view_field f)
  pub count : f.count ≡ length (members f)
  pub table : table_form member_limit fits32 (eq_z (pos 0)) f.count f.values ≡ true

pub form_of : {f : Field} → field_form f ≡ true → Form f
unfolding field_form
form_of {f} h =
    let a = and_true _ _ h in
    let b = and_true _ _ a.0 in
    record { kind = eqb-true _ _ b.0; count = eqb-true _ _ b.1; table = a.1 }

pub is_form : {f : Field} → Form f → field_form f ≡ true
unfolding field_form
is_form h = both _ _ (both _ _ (eq-eqb _ _ h.kind) (eq-eqb _ _ h.count)) h.table
