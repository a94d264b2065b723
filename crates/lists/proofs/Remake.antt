-- A loop that makes the entries in use anew and leaves the others: what it shows, and that the table stays in its form.
use Prim.Native.Nat.{ℕ, ◌<◌, ◌≤◌}
use native.Mathlib.Omega.{arith}
use mathlib.Core.Path.{◌≡◌, ◌∙◌, ap}
use mathlib.Core.Bool.{Bool, true}
use mathlib.Core.List.{List, map}
use lib.ListN.{length, take, drop, set, length-set, length-take, length-map}
use lib.Seq.{take-append-le, take-take, take-set-lt, drop-set-lt}
use Rattle.lists.specs.Table.{counted, table_form}
use Rattle.lists.proofs.Views.{Remaking, take-map}
use Rattle.lists.proofs.Indexed.{all_set}
use Rattle.lists.proofs.Forms.{form_parts, parts_form}

-- left by the count
pub remake_end : {A B : Type 0} {view : A → B} {g : B → B} {xs : List A} {k : ℕ} {vs : List A} {j : ℕ} → Remaking view g xs k vs j → (n : ℕ) → n ≤ j → counted view n vs ≡ map g (counted view n xs)
unfolding counted
remake_end {view = view} {g} {xs} {k} {vs} {j} inv n h =
    let t = map g (map view xs) in
    let l : n ≤ length (take j t) = simp (length-take, length-map) (omega (arith, inv.at, inv.long)) in
    ap (take n) inv.rest ∙ take-append-le n (take j t) (drop j (map view xs)) l ∙ take-take n j t h ∙ take-map g n (map view xs)

-- an entry in use written
pub form_set : {A : Type 0} (k : ℕ) (used unused : A → Bool) (n : ℕ) (xs : List A) (i : ℕ) (a : A) → i < n → used a ≡ true → table_form k used unused n xs ≡ true → table_form k used unused n (set xs i a) ≡ true
form_set k used unused n xs i a h u e =
    let f = form_parts k used unused n xs e in
    parts_form k used unused n (set xs i a)
    (record {
      long = length-set xs i a ∙ f.long;
      within = f.within;
      in_use = rw (take-set-lt n xs i a h) (all_set used (take n xs) i a f.in_use u);
      rest = rw (drop-set-lt n xs i a h) f.rest;
    })
