-- The buffer through its view: one law for each way out of a method.
use Prim.Native.Nat.{ℕ, ◌+◌, ◌-◌, ◌≤◌}
use native.Mathlib.Omega.{arith}
use mathlib.Core.Path.{◌≡◌, refl, sym, ◌∙◌, ap}
use mathlib.Core.Bool.{true}
use mathlib.Core.List.{List, [], ◌∷◌, map}
use lib.ListN.{length, get_or, replicate, take, drop, length-map}
use denote.Ref.{Bor}
use Rattle.std.proofs.Common.{Option, Some, None, MatchOption, slice_get}
use Rattle.std.specs.Option.{option_copied}
use Rattle.rules.specs.Lists.{has}
use Rattle.rules.specs.Values as S
use Rattle.rules.specs.Changes as C
use Rattle.rules.specs.Tables as M
use Rattle.rules.proofs.Laws.{by_case, run_append}
use Rattle.lists.specs.Find.{fold}
use Rattle.lists.proofs.Views.{counted_next, counted-length}
use Rattle.lists.proofs.Forms.{form_empty}
use Rattle.lists.proofs.Iterators.{counted_taken}
use Rattle.buffer.specs.batch.View.{view_batch, carry}
use Rattle.buffer.specs.batch.Form.{batch_form, is_unused}
use Rattle.buffer.specs.declared.batch.Batch.{Batch}
use Rattle.buffer.specs.View.{view_buffer}
use Rattle.buffer.specs.Form.{buffer_form}
use Rattle.buffer.specs.declared.Buffer.{Buffer}

-- ── the table ──
pub empty_form : (b : Batch) → is_unused b ≡ true → buffer_form (record { count = 0; batches = replicate 32 b }) ≡ true
unfolding buffer_form
empty_form b e = form_empty 32 batch_form is_unused b e

pub at_most : (t : Buffer) → length t.batches ≡ 32 → length (view_buffer t) ≤ 32
unfolding view_buffer
at_most t l = let m = counted-length view_batch t.count t.batches 32 l in omega arith

-- the sessions from one on are that one and those after it
pub from_there : (t : Buffer) (d : Batch) {i : ℕ} → length t.batches ≡ 32 → (i ≡ 0 → ⊥) → i ≤ length (view_buffer t) → drop (i - 1) (view_buffer t) ≡ view_batch (get_or t.batches (i - 1) d) ∷ drop i (view_buffer t)
unfolding view_buffer
from_there t d {i} l some h =
    let m = counted-length view_batch t.count t.batches 32 l in
    let e : (i - 1) + 1 ≡ i = omega (arith, some) in
    counted_next view_batch t.count t.batches d (i - 1) (omega (arith, some)) (omega (arith, some)) ∙ ap (λ k. view_batch (get_or t.batches (i - 1) d) ∷ drop k (view_buffer t)) e

-- ── all buffered changes ──
pub run_pending : (rows : List ℕ) (l : List M.Batch) (q : S.Place) (f : S.Field) → C.run (M.changes_in (M.pending rows l)) q f ≡ fold (carry rows q) f l
unfolding fold carry
run_pending rows [] q f = refl
run_pending rows (b ∷ l) q f =
    by_case (has b.number rows)
    (λ e. rw e (run_pending rows l q f))
    (λ e. rw e (run_append b.changes (M.changes_in (M.pending rows l)) q f ∙ run_pending rows l q (C.run b.changes q f)))

none_pending : (l : List M.Batch) → M.pending [] l ≡ l
none_pending [] = refl
none_pending (b ∷ l) = ap (λ r. b ∷ r) (none_pending l)

pub run_none : (rows : List ℕ) (l : List M.Batch) (q : S.Place) (f : S.Field) {r : S.Field} → rows ≡ [] → r ≡ C.run (M.changes_in (M.pending rows l)) q f → r ≡ C.run (M.changes_in l) q f
run_none rows l q f e h = h ∙ rw (e, none_pending l) refl

-- ── the entries in use, ys ──
module _ (t : Buffer) {ys : List Batch} (u : ys ≡ take t.count t.batches) where
  seen_used : view_buffer t ≡ map view_batch ys
  unfolding view_buffer
  seen_used = counted_taken view_batch t.count t.batches ∙ ap (map view_batch) (sym u)

  pub used_length : length ys ≡ length (view_buffer t)
  used_length = rw (seen_used, length-map ys view_batch)

  -- `first` gave r, and `map_or` z
  pub oldest_is : (r : Option (Bor Batch)) (P : Bor Batch → Type 0) {z : ℕ} → option_copied r ≡ slice_get ys 0 → MatchOption r (z ≡ 0) P → ((b : Bor Batch) → P b → z ≡ b.now.number) → z ≡ M.oldest (view_buffer t)
  unfolding view_batch
  oldest_is r P {z} e o k = rw seen_used (cases r ys e o)
    where
      cases : (r : Option (Bor Batch)) (ys : List Batch) → option_copied r ≡ slice_get ys 0 → MatchOption r (z ≡ 0) P → z ≡ M.oldest (map view_batch ys)
      cases None [] e o = o
      cases None (y ∷ ys) e o = cc
      cases (Some b) [] e o = cc
      cases (Some b) (y ∷ ys) e o = let same : b.now ≡ y = cc in k b o ∙ ap (λ (x : Batch). x.number) same
