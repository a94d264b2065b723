-- A loop that puts the entries in use that pass a test to the front of a new array: what its first m show, and that they are a table in its form.
use Prim.Native.Nat.{ℕ, ◌+◌, ◌≤◌, ◌<◌, min}
use native.Mathlib.Omega.{arith}
use mathlib.Core.Path.{◌≡◌, refl, ◌∙◌, ap}
use mathlib.Core.Bool.{Bool, true, false}
use mathlib.Core.List.{List, []}
use lib.ListN.{length, get_or, set, length-set}
use Rattle.rules.specs.Lists.{keep}
use Rattle.lists.specs.Table.{counted, table_form}
use Rattle.lists.proofs.Views.{Keeping, keep_start, keep_next, push_room, counted-length}
use Rattle.lists.proofs.Forms.{form_parts, form_push, used_at}
use Rattle.lists.proofs.Ends.{keep_done}

-- of a table xs of k entries, n of them in use, those before i have been tried
pub record Sifting {A B : Type 0} (view : A → B) (p : B → Bool) (k : ℕ) (used unused : A → Bool) (n : ℕ) (xs : List A) (m : ℕ) (vs : List A) (i : ℕ) : Type 0 where
  pub long : length vs ≡ k
  pub few : m ≤ i
  pub kept : Keeping view p n k xs (keep p (counted view n xs)) (counted view m vs) i
  pub form : table_form k used unused n xs ≡ true → table_form k used unused m vs ≡ true

module _ {A B : Type 0} {view : A → B} {p : B → Bool} {k : ℕ} {used unused : A → Bool} {n : ℕ} {xs : List A} where
  -- from an empty table, whose count c is then 0
  pub sift_start : (c : ℕ) (vs : List A) → length xs ≡ k → length vs ≡ k → counted view c vs ≡ [] → table_form k used unused c vs ≡ true → Sifting view p k used unused n xs 0 vs 0
  sift_start c vs l e s f =
      let w = (form_parts k used unused c vs f).within in
      let z : c ≡ 0 = omega (arith, counted-length view c vs k e, ap length s) in
      record { long = e; few = omega arith; kept = keep_start l (rw z at s); form = λ g. rw z at f }

  module _ {m : ℕ} {vs : List A} {i : ℕ} (inv : Sifting view p k used unused n xs m vs i) where
    pub sift_out : (d : A) → i < min n k → p (view (get_or xs i d)) ≡ false → Sifting view p k used unused n xs m vs (i + 1)
    sift_out d h t = record { long = inv.long; few = omega (arith, inv.few); kept = keep_next inv.kept d (omega arith) (omega arith) (rw t); form = inv.form }

    pub sift_in : (d : A) → i < min n k → p (view (get_or xs i d)) ≡ true → Sifting view p k used unused n xs (m + 1) (set vs m (get_or xs i d)) (i + 1)
    sift_in d h t =
        let x = get_or xs i d in
        let b : m < k = omega (arith, inv.few) in
        record {
          long = length-set vs m x ∙ inv.long;
          few = omega (arith, inv.few);
          kept = keep_next inv.kept d (omega arith) (omega arith) (rw t (push_room view m vs k x inv.long b refl));
          form = λ g. form_push k used unused m vs x b (used_at k used unused n xs i d (omega arith) g) (inv.form g);
        }

    pub sift_done : min n k ≤ i → counted view m vs ≡ keep p (counted view n xs)
    sift_done h = keep_done inv.kept h
