-- Two values in form that show the same are equal.
use Prim.Native.Nat.{ℕ}
use mathlib.Core.Path.{◌≡◌, sym, ◌∙◌, ap}
use mathlib.Core.Bool.{true}
use mathlib.Core.List.{List, []}
use lib.Dec.{eqb}
use borrow.Author.Tests.{eqb-true}
use Rattle.rules.specs.Values as S
use Rattle.rules.proofs.Laws.{and_true}
use Rattle.lists.proofs.Forms.{table_unique, array_same}
use Rattle.keys.specs.View.{view_place, view_key, view_keys}
use Rattle.keys.specs.Form.{is_blank, key_form, keys_form}
use Rattle.keys.specs.declared.Place.{Place}
use Rattle.keys.specs.declared.Key.{Key}
use Rattle.keys.specs.declared.Keys.{Keys}

pub place_unique : (a b : Place) → view_place a ≡ view_place b → a ≡ b
unfolding view_place
place_unique a b e = λ i. record { document = (e i).document; field = (e i).field }

-- the place of an entry that is not in use
blank : Place
blank = record { document = 0; field = 0 }

blank_is : (a : Place) → is_blank a ≡ true → a ≡ blank
unfolding is_blank blank
blank_is a e =
    let h = and_true (eqb a.document 0) (eqb a.field 0) e in
    λ i. record { document = eqb-true a.document 0 h.0 i; field = eqb-true a.field 0 h.1 i }

pub blank_unique : (a b : Place) → is_blank a ≡ true → is_blank b ≡ true → a ≡ b
blank_unique a b e f = blank_is a e ∙ sym (blank_is b f)

pub key_unique : (a b : Key) → key_form a ≡ true → key_form b ≡ true → view_key a ≡ view_key b → a ≡ b
unfolding view_key key_form
key_unique a b f g e = λ i. record { count = both.0 i; places = both.1 i }
  where
    both : (a.count ≡ b.count) × (a.places ≡ b.places)
    both = table_unique 4 (λ q. true) is_blank view_place (λ p q u v h. place_unique p q h) blank_unique blank a.count b.count a.places b.places f g e

pub keys_unique : (a b : Keys) → keys_form a ≡ true → keys_form b ≡ true → view_keys a ≡ view_keys b → a ≡ b
unfolding view_keys keys_form
keys_unique a b f g e = ap (λ (x : List Key). record { all = x }) (array_same 32 key_form view_key [] none key_unique a.all b.all f g (λ i. ap (λ (v : ℕ → List S.Place). v i) e))
  where
    none : Key
    none = record { count = 0; places = [] }
