-- A loop that moves the entries that pass a test to the front of their own table, and what the table is after it.
use Prim.Native.Nat.{ℕ, ◌+◌, ◌-◌, ◌≤◌, ◌<◌}
use native.Mathlib.Omega.{arith}
use native.Mathlib.Numerals.{add-one}
use mathlib.Core.Path.{◌≡◌, refl, sym, ◌∙◌, ap}
use mathlib.Core.Bool.{Bool, true, false}
use mathlib.Core.List.{List, [], ◌∷◌, ◌++◌, append-nil, map}
use lib.ListN.{length, get_or, set, take, drop, replicate}
use lib.Seq.{take-suc-set}
use Rattle.std.proofs.lemmas.List.{take_more, get_or-drop, drop-drop}
use Rattle.rules.specs.Lists.{keep, all}
use Rattle.rules.proofs.Laws.{by_case}
use Rattle.rules.proofs.Tests.{all_keep, all_true}
use Rattle.rules.proofs.InOrder.{keep_append}
use Rattle.lists.specs.Table.{counted, table_form}
use Rattle.lists.proofs.Loops.{get_d_within}
use Rattle.lists.proofs.Forms.{form_parts, parts_form, all_replicate}
use Rattle.lists.proofs.Iterators.{counted_taken}

-- of the table xs, which is now ys, the first i are tried, and m of them are kept
module _ {A : Type 0} (xs ys : List A) {m i : ℕ} (d : A) (few : m ≤ i) (h : i < length ys) (long : length ys ≡ length xs) (behind : drop i ys ≡ drop i xs) where
  same : get_or ys i d ≡ get_or xs i d
  same = let e : i + 0 ≡ i = omega arith in rw (get_or-drop i ys 0 d, get_or-drop i xs 0 d, e) at (ap (λ (l : List A). get_or l 0 d) behind)

  pub behind_next : drop (i + 1) ys ≡ drop (i + 1) xs
  behind_next = rw (drop-drop, drop-drop) at (ap (drop 1) behind)

  next : take (i + 1) xs ≡ take i xs ++ (get_or ys i d ∷ [])
  next = take_more xs i d (omega arith) ∙ rw same

  -- r is the entry, as the code reads it again
  pub kept_in : {r : A} → r ≡ get_or ys i r → (p : A → Bool) → true ≡ p (get_or ys i d) → take m ys ≡ keep p (take i xs) → take (m + 1) (set ys m r) ≡ keep p (take (i + 1) xs)
  kept_in {r} q p t e =
      let l : m < length ys = omega arith in
      let w : r ≡ get_or ys i d = q ∙ get_d_within ys i r d h in
      rw (w, add-one m, take-suc-set ys m (get_or ys i d) l, e, next, keep_append p (take i xs) (get_or ys i d ∷ []), ← t)

  pub kept_out : (p : A → Bool) → false ≡ p (get_or ys i d) → take m ys ≡ keep p (take i xs) → take m ys ≡ keep p (take (i + 1) xs)
  kept_out p t e = rw (e, next, keep_append p (take i xs) (get_or ys i d ∷ []), ← t) (sym (append-nil _))

-- ── after `lists::keep` of the first n of xs: the first m of ys count, and the others are e ──
module _ {A : Type 0} (n m : ℕ) (xs ys : List A) (p : A → Bool) (kept : take m ys ≡ keep p (take n xs)) where
  pub kept_shows : {B : Type 0} (view : A → B) (q : B → Bool) → ((x : A) → p x ≡ q (view x)) → counted view m ys ≡ keep q (counted view n xs)
  kept_shows view q s = rw (counted_taken view m ys, counted_taken view n xs, kept) (keep-map (take n xs))
    where
      keep-map : (l : List A) → map view (keep p l) ≡ keep q (map view l)
      keep-map [] = refl
      keep-map (x ∷ l) = rw (← s x) (by_case (p x) (λ t. rw t (ap (λ z. view x ∷ z) (keep-map l))) (λ t. rw t (keep-map l)))

  module _ (k : ℕ) (used unused : A → Bool) (e : A) (long : length xs ≡ k) (same : length ys ≡ length xs) (within : m ≤ length xs) (rest : drop m ys ≡ replicate (length xs - m) e) (blank : unused e ≡ true) where
    formed : all used (take n xs) ≡ true → table_form k used unused m ys ≡ true
    formed a =
        parts_form k used unused m ys
        (record {
          long = same ∙ long;
          within = omega arith;
          in_use = rw kept (all_keep used p (take n xs) a);
          rest = rw rest (all_replicate unused (length xs - m) e blank);
        })

    pub kept_form : table_form k used unused n xs ≡ true → table_form k used unused m ys ≡ true
    kept_form f = formed (form_parts k used unused n xs f).in_use

    -- where any entry may be in use
    pub kept_any : ((x : A) → used x ≡ true) → table_form k used unused m ys ≡ true
    kept_any h = formed (all_true used h (take n xs))
