-- Two cached keys in form that show the same are equal.
use mathlib.Core.Path.{◌≡◌, sym, ◌∙◌, ap}
use mathlib.Core.Bool.{true, ◌&&◌}
use lib.Dec.{eqb}
use borrow.Author.Tests.{eqb-true}
use Rattle.rules.specs.Tables as M
use Rattle.rules.proofs.Laws.{and_true}
use Rattle.field.specs.View.{view_field, field_form}
use Rattle.field.specs.declared.Field.{Field}
use Rattle.field.proofs.ViewLaws.{view_absent}
use Rattle.field.proofs.Claims.{field_unique}
use Rattle.lists.specs.Table.{counted}
use Rattle.lists.proofs.Forms.{table_unique}
use Rattle.cache.specs.cached.View.{no_cached, view_cached}
use Rattle.cache.specs.cached.Form.{is_blank_field, cached_form, is_blank_cached}
use Rattle.cache.specs.declared.cached.Cached.{Cached}
use Rattle.cache.proofs.cached.CachedLaws.{no_field}

blank_fields : (f g : Field) → is_blank_field f ≡ true → is_blank_field g ≡ true → f ≡ g
unfolding is_blank_field
blank_fields f g e h =
    let a = and_true (eqb f.kind 0) (field_form f) e in
    let b = and_true (eqb g.kind 0) (field_form g) h in
    field_unique f g a.1 b.1 (view_absent f (eqb-true f.kind 0 a.0) ∙ sym (view_absent g (eqb-true g.kind 0 b.0)))

pub cached_unique : (a b : Cached) → cached_form a ≡ true → cached_form b ≡ true → view_cached a ≡ view_cached b → a ≡ b
unfolding view_cached cached_form
cached_unique a b f g e = λ i. record { key = (e i).key; count = both.0 i; fields = both.1 i }
  where
    both : (a.count ≡ b.count) × (a.fields ≡ b.fields)
    both = table_unique 4 field_form is_blank_field view_field field_unique blank_fields no_field a.count b.count a.fields b.fields f g (ap (λ (c : M.Cached). c.fields) e)

record Blank (c : Cached) : Type 0 where
  pub form : cached_form c ≡ true
  pub shows : view_cached c ≡ no_cached

blank_is : (c : Cached) → is_blank_cached c ≡ true → Blank c
unfolding is_blank_cached view_cached counted
blank_is c e =
    let a = and_true (eqb c.key 0 && eqb c.count 0) (cached_form c) e in
    let b = and_true (eqb c.key 0) (eqb c.count 0) a.0 in
    record { form = a.1; shows = rw (eqb-true c.key 0 b.0, eqb-true c.count 0 b.1) }

pub blank_entries : (a b : Cached) → is_blank_cached a ≡ true → is_blank_cached b ≡ true → a ≡ b
blank_entries a b e h = let x = blank_is a e in let y = blank_is b h in cached_unique a b x.form y.form (x.shows ∙ sym y.shows)
