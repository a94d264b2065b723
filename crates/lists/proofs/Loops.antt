-- Loops that walk a list up by an index i, where what is still to do is `drop i xs`, and loops that write an array from its front.
-- Assumes nothing.
use mathlib.Core.Path.{◌≡◌, refl, ◌∙◌, ap, sym}
use mathlib.Core.Bool.{Bool, true, false}
use mathlib.Core.List.{List, [], ◌∷◌, ◌++◌, append-nil, map}
use Prim.Native.Nat.{ℕ, zero, suc, ◌+◌, ◌≤◌, ◌<◌, min}
use native.Mathlib.Numerals.{add-one}
use native.Mathlib.Nat.{not-suc-le-zero, le_of_suc-le-suc}
use native.Mathlib.Omega.{arith}
use lib.ListN.{length, get_or, take, drop, set, drop_of_length-le, length-take, length-drop, length-append, length-map}
use lib.Seq.{drop-cons, get_or-take, set_at, append_snoc, take-suc, length-take-le, take_all, take-take}
use Rattle.lists.specs.Find.{first_at}

module _ {A : Type 0} (d : A) where
  pub drop_next : (xs : List A) (i : ℕ) → i < length xs → drop i xs ≡ get_or xs i d ∷ drop (i + 1) xs
  drop_next xs i h = rw (add-one i) (drop-cons xs i d h)

  -- the same where only the first n elements count
  pub drop-take_next : (n : ℕ) (xs : List A) (i : ℕ) → i < n → i < length xs → drop i (take n xs) ≡ get_or xs i d ∷ drop (i + 1) (take n xs)
  drop-take_next n xs i h l = drop_next (take n xs) i (simp length-take (omega arith)) ∙ ap (λ (x : A). x ∷ drop (i + 1) (take n xs)) (get_or-take n xs i d h)

-- as many as there are, at most
pub take_min : {A : Type 0} (m : ℕ) (l : List A) → take (min m (length l)) l ≡ take m l
take_min m l =
    let q = min m (length l) in
    sym (take-take q m l (omega arith)) ∙ take_all q (take m l) (rw (length-take m l) (omega arith))

module _ {A : Type 0} (p : A → Bool) (none : ℕ) where
  pub first_hit : {x : A} {l ys : List A} {i : ℕ} → l ≡ x ∷ ys → p x ≡ true → first_at p none i l ≡ i
  unfolding first_at
  first_hit e h = simp (e, h)

  pub first_miss : {x : A} {l ys : List A} (i : ℕ) → l ≡ x ∷ ys → p x ≡ false → first_at p none i l ≡ first_at p none (i + 1) ys
  unfolding first_at
  first_miss i e h = simp (e, h)

-- ---- a loop that writes each element j of an array once, from the front: after j turns the first j are those of a target list t
abbrev pub filled : {A : Type 0} → List A → List A → ℕ → List A
filled t v j = take j t ++ drop j v

module _ {A : Type 0} (t v : List A) where
  pub fill_step : (j : ℕ) (d : A) → j < length t → j < length v → set (filled t v j) j (get_or t j d) ≡ filled t v (j + 1)
  fill_step j d h k =
      rw (add-one j)
      (ap (λ (l : List A). set (take j t ++ l) j (get_or t j d)) (drop-cons v j d k)
      ∙ set_at (take j t) (get_or v j d) (drop (suc j) v) (get_or t j d) j (length-take-le j t (omega arith))
      ∙ sym (append_snoc (take j t) (get_or t j d) (drop (suc j) v))
      ∙ ap (λ (l : List A). l ++ drop (suc j) v) (sym (take-suc t j d h)))

  pub fill_end : (n : ℕ) → length t ≡ n → length v ≡ n → filled t v n ≡ t
  fill_end n h k = let q : length v ≤ n = omega arith in rw (drop_of_length-le v q, append-nil) (take_all n t (omega arith))

-- the length of an array in a struct, as owning the struct tells it where the elements are structs
pub length_mapped : (X Y : Type 0) (g : X → Y) (l : List X) (n : ℕ) → length (map g l) ≡ n → length l ≡ n
length_mapped X Y g l n e = sym (length-map l g) ∙ e

-- within the list the value for what lies past its end does not matter
pub get_d_within : {A : Type 0} (xs : List A) (i : ℕ) (d e : A) → i < length xs → get_or xs i d ≡ get_or xs i e
get_d_within [] i d e h = absurd (not-suc-le-zero h)
get_d_within (x ∷ xs) zero d e h = refl
get_d_within (x ∷ xs) (suc i) d e h = get_d_within xs i d e (le_of_suc-le-suc h)

-- ---- a loop that copies the k elements of a list to the front of another
pub record Copying {A : Type 0} (w v : List A) (k : ℕ) (vs : List A) (j : ℕ) : Type 0 where
  pub long : length w ≡ k
  pub room : k ≤ length v
  pub at : j ≤ k
  pub rest : vs ≡ filled w v j

pub copy_start : {A : Type 0} {w v : List A} {k : ℕ} → length w ≡ k → k ≤ length v → Copying w v k v 0
copy_start l r = record { long = l; room = r; at = omega arith; rest = refl }

module _ {A : Type 0} {w v : List A} {k : ℕ} {vs : List A} {j : ℕ} (inv : Copying w v k vs j) where
  pub copy_next : (d : A) {r : A} → j < k → r ≡ get_or w j d → Copying w v k (set vs j r) (j + 1)
  copy_next d h e =
      let a : j < length w = omega (arith, inv.long) in
      let b : j < length v = omega (arith, inv.room) in
      record { long = inv.long; room = inv.room; at = omega arith; rest = rw (e, inv.rest) (fill_step w v j d a b) }

  pub copy_end : k ≤ j → vs ≡ w ++ drop k v
  copy_end h =
      let e : j ≡ k = omega (arith, inv.at) in
      let q : length w ≤ k = omega (arith, inv.long) in
      inv.rest ∙ rw e (ap (λ (l : List A). l ++ drop k v) (take_all k w q))

  pub copy_length : length vs ≡ length v
  copy_length =
      let a = inv.at in
      let b = inv.room in
      let c = inv.long in
      rw inv.rest (simp (length-append, length-take, length-drop) (omega arith))
