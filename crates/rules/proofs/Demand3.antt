-- Demand 3, proved from the invariant.
use Prim.Native.Nat.{◌+◌, ◌<◌, ◌≤◌, ℕ}
use native.Mathlib.Omega.{arith}
use mathlib.Core.Path.{◌∙◌, ◌≡◌, ap, refl, sym}
use mathlib.Core.Bool.{false, true, true≢false}
use mathlib.Core.List.{List, [], ◌++◌, ◌∷◌}
use lib.ListN.{length}
use lib.Dec.{eqb, leb, ltb}
use borrow.Author.Tests.{leb-true, ltb-true}
use Rattle.rules.specs.Lists.{has}
use Rattle.rules.specs.Limits.{lease_ticks}
use Rattle.rules.specs.Refusals.{nothing_buffered}
use Rattle.rules.specs.Values.{Stock}
use Rattle.rules.specs.Changes.{follow}
use Rattle.rules.specs.Tables.{Batch, numbers_of, pending, changes_in, Queue, idle, leased, is_leased, Plant}
use Rattle.rules.specs.Kept.{in_time, owner_ok, queue_ok}
use Rattle.rules.specs.History.{Committed, History, whole, World, turns, initial}
use Rattle.rules.specs.Demand3.{AllBuffered, FirstPart, Drains, Demand3}
use Rattle.rules.proofs.Laws.{by_case, self, and_true}
use Rattle.rules.proofs.KeptParts.{Kept}
use Rattle.rules.proofs.Invariant.{Owes, none_owed, skips, owes, Inv}
use Rattle.rules.proofs.Workers.{current_is_history}
use Rattle.rules.proofs.Kept.{turns_keep, initial_kept}
use Rattle.rules.proofs.InvariantSteps.{inv_turns, inv_initial}
use Rattle.rules.proofs.CommitOrder.{order-turns, order-initial}
use Rattle.rules.proofs.Prepare.{turns_append, fine_append, Past, prepare_run}
use Rattle.rules.proofs.Drain.{Ready, length_nums, all_rounds}

-- ── what the invariant says ──
left_buffered_lem : (b : List ℕ) (S : Stock) (l : List Committed) (bs : List Batch) → Owes S l bs
    → ((n : ℕ) → has n (numbers_of bs) ≡ true → has n b ≡ true) → AllBuffered b l
left_buffered_lem b S l bs none_owed h = tt
left_buffered_lem b S l bs (skips {l = k} q e o) h = (λ z. absurd (true≢false (sym q ∙ z)), left_buffered_lem b S k bs o h)
left_buffered_lem b S l bs (owes {x = x} {l = k} {b = c} {bs = ds} d o) h = (
  λ z. h x.number (rw (d.number, self x.number)),
  left_buffered_lem b _ k ds o
      (λ n g. h n (by_case (eqb n c.number) (λ t. rw t) (λ t. rw t g))),
)

pending_in : (rows : List ℕ) (l : List Batch) (n : ℕ) → has n (numbers_of (pending rows l)) ≡ true → has n (numbers_of l) ≡ true
pending_in rows [] n h = h
pending_in rows (b ∷ l) n h =
    by_case (eqb n b.number) (λ t. rw t)
    (λ t. rw t (by_case (has b.number rows) (λ u. pending_in rows l n (rw u at h)) (λ u. pending_in rows l n (rw (u, t) at h))))

first_part_lem : {h : History} {p : Plant} → Inv h p → FirstPart h p.store
first_part_lem {h} {p} i =
    record {
      done = i.workers.done;
      left = i.workers.left;
      split = i.workers.split;
      stock = i.workers.stock;
      others =
          left_buffered_lem h.buffered p.store i.workers.left (pending p.rows p.buffer) i.workers.owed
          (λ n g. rw (← i.workers.names) (pending_in p.rows p.buffer n g));
    }

-- nothing buffered: the store holds the whole history
all_stored_lem : {h : History} {p : Plant} → Inv h p → p.buffer ≡ [] → p.store ≡ follow h.start (whole h.commits)
all_stored_lem {h} {p} i e = ap (λ z. follow p.store (changes_in (pending p.rows z))) (sym e) ∙ current_is_history i.workers

past_is : (q : Queue) (clock : ℕ) → queue_ok clock q ≡ true → Past q clock
past_is idle clock e = tt
past_is (leased o t) clock e = leb-true t clock (and_true (leb t clock) (ltb clock (t + lease_ticks)) (and_true (in_time clock t) (owner_ok o) e).0).0

-- a queue lease taken 300 ticks ago has lapsed
over : (q : Queue) (before now : ℕ) → now ≡ before + lease_ticks → Past q before → queue_ok now q ≡ true → is_leased q ≡ false
over idle before now e h k = refl
over (leased o t) before now e h k =
    absurd (late before now t e h (ltb-true now (t + lease_ticks)
    (and_true (leb t now) (ltb now (t + lease_ticks)) (and_true (in_time now t) (owner_ok o) k).0).1))
  where
    late : (b n x : ℕ) → n ≡ b + lease_ticks → x ≤ b → n < x + lease_ticks → ⊥
    late b n x u v w = omega arith

drain : (w : World) → Kept w.plant → Inv w.history w.plant → Drains w
drain w k i v lt l way ts us c d =
    let a = prepare_run v lt l ts w c (omega (arith, way.moves)) (omega (arith, way.moves, way.ticks_left)) in
    let w₁ = turns ts w in
    let k₁ = turns_keep ts w k in
    let r : Ready v w₁.plant = record {
      near = a.prepared.near ∙ way.store;
      hand = a.prepared.hand ∙ rw way.worker;
      queue = over w₁.plant.queue w.plant.clock w₁.plant.clock (a.prepared.clock ∙ ap (λ n. w.plant.clock + n) way.moves)
          (a.prepared.past w.plant.clock (past_is w.plant.queue w.plant.clock k.queue)) k₁.queue;
    } in
    let n : length w₁.plant.buffer ≡ length w.history.buffered = rw (a.prepared.buffer, ← i.workers.names)
    (sym (length_nums w.plant.buffer)) in
    let z = all_rounds v lt (length w.history.buffered) us w₁ d n k₁ r in
    let e : turns (ts ++ us) w ≡ turns us w₁ = turns_append ts us w in
    let empty' : (turns (ts ++ us) w).plant.buffer ≡ [] = rw e z.buffer in
    record {
      none_refused =
          fine_append ts us w a.none_refused z.none_refused;
      nothing_buffered =
          empty';
      all_stored = all_stored_lem (inv_turns (ts ++ us) w k i) empty';
    }

-- ── demand 3 ──
pub demand3 : Demand3
demand3 ts =
    let i = inv_turns ts initial initial_kept inv_initial in
    let w = turns ts initial in
    record {
      first_part = first_part_lem i;
      buffer = i.workers.names;
      commit_order = (order-turns ts initial initial_kept order-initial).order;
      as_alone = i.alone;
      drains = drain w (turns_keep ts initial initial_kept) i;
    }
