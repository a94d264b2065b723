-- Places and keys through their views: one law for each way out of a method.
use Prim.Native.Nat.{ℕ, ◌+◌, ◌-◌, ◌<◌, ◌≤◌}
use native.Mathlib.Omega.{arith}
use mathlib.Core.Path.{◌≡◌, refl, sym, ◌∙◌, ap, ap₂, fun_ext}
use mathlib.Core.Bool.{Bool, true, false, cond, ◌&&◌, ◌||◌}
use mathlib.Core.List.{List, [], ◌∷◌, map}
use lib.ListN.{length, get_or, set, take, drop, replicate, length-drop}
use lib.Seq.{take_all}
use lib.Dec.{eqb, ltb}
use borrow.Author.Rules.{rules}
use borrow.Author.Tests.{tests, lt-ltb}
use Rattle.std.specs.List.{list_any}
use Rattle.rules.specs.Lists.{override}
use Rattle.rules.specs.Limits.{key_count}
use Rattle.rules.specs.Values as S
use Rattle.lists.proofs.Loops.{drop_next}
use Rattle.lists.proofs.Forms.{form_empty, array_empty, array_at, array_set}
use Rattle.lists.proofs.Indexed.{at_index, past_index, set_index, copies_same}
use Rattle.lists.proofs.Iterators.{shown_contains}
use Rattle.keys.specs.View.{view_place, view_key, view_keys}
use Rattle.keys.specs.Form.{is_blank, key_form, keys_form}
use Rattle.keys.specs.declared.Place.{Place}
use Rattle.keys.specs.declared.Key.{Key}
use Rattle.keys.specs.declared.Keys.{Keys}

swapped : (a b : ℕ) → eqb a b ≡ eqb b a
swapped a b = search (rules, tests)

-- a place compared with q, as its derived test reads them
pub same_swapped : (a q : Place) → eqb a.document q.document && eqb a.field q.field ≡ S.same_place (view_place q) (view_place a)
unfolding view_place
same_swapped a q = ap₂ ◌&&◌ (swapped a.document q.document) (swapped a.field q.field)

-- ── one key ──
pub key_form_empty : (q : Place) → is_blank q ≡ true → key_form (record { count = 0; places = q ∷ q ∷ q ∷ q ∷ [] }) ≡ true
unfolding key_form
key_form_empty q e = form_empty 4 (λ p. true) is_blank q e

-- ── a place twice: t is whether the place at i stands among those after it ──
module _ (ys : List Place) (i : ℕ) (d : Place) {t : Bool} (h : i < length ys) (a : t ≡ list_any (λ y. eqb y.document (get_or ys i d).document && eqb y.field (get_or ys i d).field) (take (length ys - (i + 1)) (drop (i + 1) ys))) where
  twice_at : S.twice (map view_place (drop i ys)) ≡ t || S.twice (map view_place (drop (i + 1) ys))
  twice_at =
      let q = get_or ys i d in
      let l : length (drop (i + 1) ys) ≤ length ys - (i + 1) = rw length-drop (omega arith) in
      let b = rw (take_all (length ys - (i + 1)) (drop (i + 1) ys) l) at a in
      ap (λ l. S.twice (map view_place l)) (drop_next d ys i h)
      ∙ ap (λ r. r || S.twice (map view_place (drop (i + 1) ys))) (sym (shown_contains view_place _ (S.same_place (view_place q)) (drop (i + 1) ys) b refl (λ x. same_swapped x q)))

  pub twice_hit : t ≡ true → true ≡ S.twice (map view_place (drop i ys))
  twice_hit e = sym (twice_at ∙ rw e)

  pub twice_next : t ≡ false → S.twice (map view_place (drop i ys)) ≡ S.twice (map view_place (drop (i + 1) ys))
  twice_next e = twice_at ∙ rw e

-- ── the table ──
pub keys_empty : (k : Key) → view_key k ≡ [] → view_keys (record { all = replicate 32 k }) ≡ (λ n. [])
unfolding view_keys
keys_empty k e = fun_ext (λ n. copies_same view_key [] 32 k n e)

pub keys_form_lem : (k : Key) → key_form k ≡ true → keys_form (record { all = replicate 32 k }) ≡ true
unfolding keys_form
keys_form_lem k e = array_empty 32 key_form k e

module _ (t : Keys) (l : length t.all ≡ 32) where
  pub key_past : (n : ℕ) (r : Key) → length t.all ≤ n → view_key r ≡ [] → view_key r ≡ view_keys t n
  unfolding view_keys
  key_past n r h e = e ∙ past_index view_key [] t.all n 32 l (omega arith)

  -- r is the entry
  pub key_at_lem : (n : ℕ) (r : Key) → n < length t.all → r ≡ get_or t.all n r → view_key r ≡ view_keys t n
  unfolding view_keys
  key_at_lem n r h e = ap view_key e ∙ at_index view_key [] t.all n r h

  pub key_form_lem : (n : ℕ) (r : Key) → n < length t.all → r ≡ get_or t.all n r → keys_form t ≡ true → key_form r ≡ true
  unfolding keys_form
  key_form_lem n r h e f = rw e (array_at 32 key_form t.all n r (omega arith) f)

  pub keys_with : (n : ℕ) (k : Key) → n < 32 → view_keys (record { all = set t.all n k }) ≡ cond (ltb n key_count) (override (view_keys t) n (view_key k)) (view_keys t)
  unfolding view_keys
  keys_with n k h = rw (lt-ltb n 32 h) (set_index view_key [] t.all n k (omega arith))

  pub with_form : (n : ℕ) (k : Key) → keys_form t ≡ true → key_form k ≡ true → keys_form (record { all = set t.all n k }) ≡ true
  unfolding keys_form
  with_form n k f g = array_set 32 key_form t.all n k f g
