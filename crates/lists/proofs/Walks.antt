-- Loops over a list of n elements by their numbers: what is still to do is `drop i l`.
use mathlib.Core.Path.{◌≡◌, refl, sym, ◌∙◌, ap}
use mathlib.Core.Bool.{Bool, true, false}
use mathlib.Core.List.{List, [], ◌∷◌, ◌++◌, append_assoc, append-nil, map}
use Prim.Native.Nat.{ℕ, ◌+◌, ◌≤◌, ◌<◌}
use native.Mathlib.Omega.{arith}
use lib.ListN.{length, get_or, drop, length-append, drop_of_length-le}
use Rattle.rules.specs.Lists.{any, pushed}
use Rattle.rules.proofs.Laws.{pushed_room}
use Rattle.lists.proofs.Loops.{drop_next}

-- ── a loop that looks for an element that passes a test ──
pub record Asking {B : Type 0} (p : B → Bool) (l : List B) (i : ℕ) : Type 0 where
  pub rest : any p l ≡ any p (drop i l)

pub ask_start : {B : Type 0} {p : B → Bool} {l : List B} → Asking p l 0
ask_start = record { rest = refl }

module _ {B : Type 0} {p : B → Bool} {l : List B} {i n : ℕ} (inv : Asking p l i) (e : n ≡ length l) where
  module _ (d : B) (x : B) (h : i < n) (a : x ≡ get_or l i d) where
    next : drop i l ≡ x ∷ drop (i + 1) l
    next = drop_next d l i (omega arith) ∙ ap (λ (y : B). y ∷ drop (i + 1) l) (sym a)

    pub ask_hit : p x ≡ true → true ≡ any p l
    ask_hit b = sym (inv.rest ∙ simp (next, b))

    pub ask_next : p x ≡ false → Asking p l (i + 1)
    ask_next b = record { rest = inv.rest ∙ simp (next, b) }

  pub ask_end : n ≤ i → false ≡ any p l
  ask_end h = let q : length l ≤ i = omega arith in sym (inv.rest ∙ simp (drop_of_length-le l q))

-- ── a loop that puts what g makes of each element into a table of k entries, seen as acc ──
pub record Making {B C : Type 0} (g : B → C) (l : List B) (k : ℕ) (acc : List C) (i : ℕ) : Type 0 where
  pub short : length l ≤ k
  pub few : length acc ≡ i
  pub rest : map g l ≡ acc ++ map g (drop i l)

pub make_start : {B C : Type 0} {g : B → C} {l : List B} {k : ℕ} {acc : List C} → length l ≤ k → acc ≡ [] → Making g l k acc 0
make_start s e = record { short = s; few = rw e refl; rest = rw e refl }

module _ {B C : Type 0} {g : B → C} {l : List B} {k : ℕ} {acc : List C} {i n : ℕ} (inv : Making g l k acc i) (e : n ≡ length l) where
  pub make_next : (d x : B) {r : List C} → i < n → x ≡ get_or l i d → r ≡ pushed k acc (g x) → Making g l k r (i + 1)
  make_next d x {r} h a b =
      let s = inv.short in
      let f = inv.few in
      let q : r ≡ acc ++ (g x ∷ []) = b ∙ pushed_room k acc (g x) (omega arith) in
      record {
        short = s;
        few = rw q (simp length-append (omega arith));
        rest = inv.rest ∙ ap (λ (m : List B). acc ++ map g m) (drop_next d l i (omega arith) ∙ ap (λ (y : B). y ∷ drop (i + 1) l) (sym a)) ∙ rw q (sym (append_assoc acc (g x ∷ []) (map g (drop (i + 1) l))));
      }

  pub make_end : n ≤ i → acc ≡ map g l
  make_end h = let q : length l ≤ i = omega arith in sym (inv.rest ∙ simp (drop_of_length-le l q, append-nil))
