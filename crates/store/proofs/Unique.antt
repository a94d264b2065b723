-- Two stores in form that show the same are equal.
use Prim.Native.Nat.{ℕ, ◌+◌, ◌*◌, ◌/◌, ◌%◌, ◌<◌}
use native.Mathlib.Omega.{arith}
use mathlib.Core.Path.{◌≡◌, refl, sym, ◌∙◌, ap}
use mathlib.Core.Bool.{true}
use mathlib.Core.List.{List, [], map}
use lib.ListN.{length, get_or}
use lib.Dec.{ltb}
use borrow.Author.Tests.{lt-ltb, ltb-true, ltb-false}
use Rattle.rules.specs.Limits.{document_count, field_count}
use Rattle.rules.specs.Values as S
use Rattle.rules.proofs.Laws.{by_case}
use Rattle.field.specs.View.{view_field, field_form}
use Rattle.field.specs.declared.Field.{Field}
use Rattle.field.proofs.Claims.{field_unique}
use Rattle.lists.proofs.Forms.{array_parts, array_same}
use Rattle.lists.proofs.Indexed.{past_index}
use Rattle.store.specs.View.{ranged, view_store, store_form}
use Rattle.store.specs.declared.Store.{Store}

-- every index is that of a place
abbrev place_at : ℕ → S.Place
place_at i = record { document = i / field_count; field = i % field_count }

shown : (t : Store) (i : ℕ) → i < 256 → view_store t (place_at i) ≡ get_or (map view_field t.fields) i S.absent
unfolding view_store ranged
shown t i h =
    let d : i / field_count < document_count = omega arith in
    let f : i % field_count < field_count = omega arith in
    let e : field_count * (i / field_count) + i % field_count ≡ i = omega arith in
    rw (lt-ltb _ _ d, lt-ltb _ _ f, e) refl

pub store_unique : (a b : Store) → store_form a ≡ true → store_form b ≡ true → view_store a ≡ view_store b → a ≡ b
unfolding store_form
store_unique a b f g e = ap (λ (x : List Field). record { fields = x }) (array_same 256 field_form view_field S.absent none field_unique a.fields b.fields f g at)
  where
    none : Field
    none = record { kind = 0; count = 0; values = [] }

    past : (t : Store) (i : ℕ) → length t.fields ≡ 256 → ltb i 256 ≡ mathlib.Core.Bool.false → S.absent ≡ get_or (map view_field t.fields) i S.absent
    past t i l h = past_index view_field S.absent t.fields i 256 l (ltb-false i 256 h)

    at : (i : ℕ) → get_or (map view_field a.fields) i S.absent ≡ get_or (map view_field b.fields) i S.absent
    at i =
        by_case (ltb i 256)
        (λ t. sym (shown a i (ltb-true i 256 t)) ∙ ap (λ (s : S.Stock). s (place_at i)) e ∙ shown b i (ltb-true i 256 t))
        (λ t. sym (past a i (array_parts 256 field_form a.fields f).0 t) ∙ past b i (array_parts 256 field_form b.fields g).0 t)
