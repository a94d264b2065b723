-- The invariant is kept by take, cut, apply, delete, sweep and store.
use Prim.Native.Nat.{◌<◌, ℕ}
use mathlib.Core.Path.{◌≡◌, subst}
use mathlib.Core.Bool.{Bool, ◌&&◌, false, not, true}
use mathlib.Core.List.{List, [], ◌++◌, ◌∷◌}
use lib.ListN.{length}
use lib.Dec.{leb}
use lib.IntN.{ℤ}
use Rattle.rules.specs.Lists.{has, same_case}
use Rattle.rules.specs.Limits.{row_limit, worker_count}
use Rattle.rules.specs.Values.{nat_of}
use Rattle.rules.specs.Changes.{follow}
use Rattle.rules.specs.Tables.{oldest, is_oldest, batch_of, Hand, holds, full, replied, handed, Plant, with_store, with_rows, with_hand, with_near}
use Rattle.rules.specs.Calls.{Fate, arrives, lost, unreached, fate_number, Take, Delete}
use Rattle.rules.specs.Conditions.{no_room}
use Rattle.rules.specs.Effects.{room, taken, carried, applied, deleted, cut, swept}
use Rattle.rules.specs.History.{History, note}
use Rattle.rules.proofs.Laws.{by_case, pushed_room}
use Rattle.rules.proofs.KeptParts.{Kept}
use Rattle.rules.proofs.Buffer.{is_oldest_lem, has_row, row_room, carried_hands}
use Rattle.rules.proofs.Invariant.{Inv}
use Rattle.rules.proofs.Workers.{workers_carry, workers_take, workers_cut, workers_reply, workers_delete, workers_sweep}

pub inv_take : {h : History} {p : Plant} (w : ℤ) (ws : List ℤ) → Inv h p → Inv (note (Take w) (oldest p.buffer ∷ []) ws h) (taken (nat_of w) p)
unfolding note taken
inv_take w ws i = record { workers = workers_take (nat_of w) i.workers; alone = i.alone; sessions = i.sessions; keys = i.keys; early = i.early }

pub inv_cut : {h : History} {p : Plant} (w : ℕ) → Inv h p → Inv h (cut w p)
unfolding cut
inv_cut {p = p} w i = record { workers = workers_cut w i.workers; alone = i.alone; sessions = i.sessions; keys = i.keys; early = i.early }

pub inv_carry : {h : History} {p : Plant} (n : ℕ) → (has n p.rows ≡ false → is_oldest n p.buffer ≡ true)
    → leb row_limit (length p.rows) && not (has n p.rows) ≡ false → Kept p → Inv h p → Inv h (carried n p)
unfolding carried
inv_carry {h} {p} n old r k i =
    by_case (has n p.rows) (λ e. rw e i) (λ e. rw (e, pushed_room row_limit p.rows n (row_room n p.rows r e)) (go e (old e)))
  where
    go : has n p.rows ≡ false → is_oldest n p.buffer ≡ true
        → Inv h (with_store (follow p.store (batch_of n p.buffer)) (with_rows (p.rows ++ (n ∷ [])) p))
    go e o = record {
      workers = workers_carry p.buffer n o e k.buffer i.workers;
      alone = i.alone;
      sessions = i.sessions;
      keys = i.keys;
      early = i.early;
    }

pub inv_reply : {h : History} (w : ℕ) (q : Plant) → w < worker_count → full (q.hands w) ≡ true → Inv h q
    → Inv h (with_hand w (holds (handed (q.hands w)) true) q)
inv_reply w q lt f i = record { workers = workers_reply w lt f i.workers; alone = i.alone; sessions = i.sessions; keys = i.keys; early = i.early }

pub inv_apply : {h : History} {p : Plant} (fate : Fate) (w : ℕ) → w < worker_count → full (p.hands w) ≡ true
    → same_case fate_number fate arrives && no_room w p ≡ false → Kept p → Inv h p
    → Inv h (applied fate w p)
unfolding applied
inv_apply {h} {p} fate w lt f room k i = go fate room
  where
    n : ℕ
    n = handed (p.hands w)

    there : no_room w p ≡ false → Inv h (carried n p)
    there r = inv_carry n (λ e. is_oldest_lem p.rows p.buffer (p.hands w) f e (k.hands w lt)) r k i

    answered : no_room w p ≡ false → Inv h (with_hand w (holds n true) (carried n p))
    answered r =
        subst (λ (x : ℕ → Hand). Inv h (with_hand w (holds (handed (x w)) true) (carried n p))) (carried_hands n p)
        (inv_reply w (carried n p) lt (rw (carried_hands n p) f) (there r))

    go : (x : Fate) → same_case fate_number x arrives && no_room w p ≡ false → Inv h (applied x w p)
    go arrives r = answered r
    go lost r = by_case (no_room w p) (λ e. rw e i) (λ e. rw e (there e))
    go unreached r = i

pub inv_delete : {h : History} {p : Plant} (w : ℤ) (ns : List ℕ) (ws : List ℤ) → nat_of w < worker_count → full (p.hands (nat_of w)) ≡ true
    → replied (p.hands (nat_of w)) ≡ true → Kept p → Inv h p → Inv (note (Delete w) ns ws h) (deleted (nat_of w) p)
unfolding note deleted
inv_delete {h} {p} w' ns ws lt f r k i =
    record {
      workers = workers_cut w (rw (i.workers.hand w lt f) (workers_delete n row i.workers));
      alone = i.alone;
      sessions = i.sessions;
      keys = i.keys;
      early = i.early;
    }
  where
    w : ℕ
    w = nat_of w'

    n : ℕ
    n = handed (p.hands w)

    row : has n p.rows ≡ true
    row = has_row p.rows p.buffer (p.hands w) f r (k.hands w lt)

pub inv_sweep : {h : History} {p : Plant} → Inv h p → Inv h (swept p)
unfolding swept
inv_sweep {h} {p} i =
    record {
      workers = workers_sweep p i.workers;
      alone = i.alone;
      sessions = i.sessions;
      keys = i.keys;
      early = i.early;
    }

pub inv_near : {h : History} {p : Plant} (b : Bool) → Inv h p → Inv h (with_near b p)
inv_near b i = record { workers = i.workers; alone = i.alone; sessions = i.sessions; keys = i.keys; early = i.early }
