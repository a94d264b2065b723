-- Loops over a table whose index ends at the lesser of the table's count n and its limit k, and loops that write a table in place.
use Prim.Native.Nat.{ℕ, ◌+◌, ◌-◌, ◌≤◌, ◌<◌, min}
use native.Mathlib.Omega.{arith}
use mathlib.Core.Path.{◌≡◌, refl, sym, ◌∙◌, ap}
use mathlib.Core.Bool.{Bool, true, false}
use mathlib.Core.List.{List, map}
use lib.Dec.{leb}
use lib.ListN.{length, get_or, set, take, drop, length-map, get_or-map}
use lib.Seq.{get_or-append-add, get_or-drop, length-take-le}
use borrow.Author.Tests.{leb-true, leb-false}
use Rattle.rules.proofs.Laws.{by_case}
use Rattle.lists.specs.Table.{counted}
use Rattle.lists.proofs.Loops.{filled}
use Rattle.lists.proofs.Views.{Seeking, seek_hit, seek_next, seek_end, seek_past, Keeping, keep_end, keep_past, Working, work_end, work_past, Remaking, remake_next, remake_past}
use Rattle.lists.proofs.Remake.{remake_end}

ends : {P : Type 0} (n k i : ℕ) → (n ≤ i → P) → (k ≤ i → P) → min n k ≤ i → P
ends n k i f g h = by_case (leb n i) (λ t. f (leb-true n i t)) (λ t. g (omega (arith, leb-false n i t)))

module _ {A B C : Type 0} {view : A → B} {p : B → Bool} {g : B → C} {e : C} {n k : ℕ} {xs : List A} {whole : C} {i : ℕ} (inv : Seeking view p g e n k xs whole i) where
  pub seek_found : (d : A) {r : C} → i < min n k → p (view (get_or xs i d)) ≡ true → r ≡ g (view (get_or xs i d)) → r ≡ whole
  seek_found d h t q = seek_hit inv d (omega arith) (omega arith) refl t q

  pub seek_on : (d : A) → i < min n k → p (view (get_or xs i d)) ≡ false → Seeking view p g e n k xs whole (i + 1)
  seek_on d h t = seek_next inv d (omega arith) (omega arith) refl t

  pub seek_done : {r : C} → min n k ≤ i → r ≡ e → r ≡ whole
  seek_done h q = ends n k i (λ a. seek_end inv a q) (λ a. seek_past inv a q) h

pub keep_done : {A B : Type 0} {view : A → B} {p : B → Bool} {n k : ℕ} {xs : List A} {whole acc : List B} {i : ℕ} → Keeping view p n k xs whole acc i → min n k ≤ i → acc ≡ whole
keep_done {n = n} {k} {i = i} inv h = ends n k i (keep_end inv) (keep_past inv) h

pub work_done : {A B C : Type 0} {view : A → B} {f : C → B → C} {n k : ℕ} {xs : List A} {whole b : C} {i : ℕ} → Working view f n k xs whole b i → min n k ≤ i → b ≡ whole
work_done {n = n} {k} {i = i} inv h = ends n k i (work_end inv) (work_past inv) h

-- ── a loop in place: an entry that is not written yet is still the old one ──
pub filled_later : {A : Type 0} (t v : List A) (j m : ℕ) (d : A) → j ≤ length t → j ≤ m → get_or (filled t v j) m d ≡ get_or v m d
filled_later t v j m d h l =
    let e : j + (m - j) ≡ m = omega arith in
    rw (length-take-le j t h, e) at (get_or-append-add (take j t) (drop j v) (m - j) d ∙ get_or-drop j v (m - j) d)

module _ {A B : Type 0} {view : A → B} {g : B → B} {xs : List A} {k : ℕ} {vs : List A} {j : ℕ} (inv : Remaking view g xs k vs j) where
  pub remake_done : (n : ℕ) → min n k ≤ j → counted view n vs ≡ map g (counted view n xs)
  remake_done n h = ends n k j (remake_end inv n) (remake_past inv n) h

  remake_old : (d : A) → j < k → view (get_or vs j d) ≡ view (get_or xs j d)
  remake_old d h =
      let l : j ≤ length (map g (map view xs)) = rw (length-map (map view xs) g, length-map xs view) (omega (arith, inv.long)) in
      sym (get_or-map view vs j d) ∙ ap (λ l. get_or l j (view d)) inv.rest ∙ filled_later (map g (map view xs)) (map view xs) j j (view d) l (omega arith) ∙ get_or-map view xs j d

  pub remake_here : (d : A) {r : A} → j < k → view r ≡ g (view (get_or vs j d)) → Remaking view g xs k (set vs j r) (j + 1)
  remake_here d h e = remake_next inv d h (e ∙ ap g (remake_old d h))
