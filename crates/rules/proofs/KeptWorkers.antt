-- The rules of the plant are kept by take, cut, apply, delete, sweep and store.
use Prim.Native.Nat.{◌+◌, ◌<◌, ℕ}
use native.Mathlib.Omega.{arith}
use mathlib.Core.Path.{◌∙◌, ◌≡◌, ap, refl, subst, sym}
use mathlib.Core.Bool.{Bool, ◌&&◌, false, not, true, true≢false}
use mathlib.Core.Option.{some}
use mathlib.Core.Logic.{inl, inr}
use mathlib.Core.List.{List, [], ◌++◌, ◌∷◌}
use lib.ListN.{length, length-append}
use lib.Dec.{eqb, leb, ltb}
use borrow.Author.Tests.{eqb-true, le-leb, lt-ltb, not-true}
use Rattle.rules.specs.Lists.{is_empty, has, same_case}
use Rattle.rules.specs.Limits.{row_limit, worker_count, lease_ticks}
use Rattle.rules.specs.Values.{Stock}
use Rattle.rules.specs.Changes.{follow}
use Rattle.rules.specs.Tables.{Batch, numbers_of, is_buffered, oldest, is_oldest, batch_of, unbuffer, pending, changes_in, Hand, empty, holds, full, replied, handed, Queue, idle, leased, owned_by, Plant, with_store, with_buffer, with_rows, with_hand, with_queue, with_near}
use Rattle.rules.specs.Reading.{current}
use Rattle.rules.specs.Calls.{Fate, arrives, lost, unreached, fate_number}
use Rattle.rules.specs.Conditions.{no_room}
use Rattle.rules.specs.Effects.{room, taken, carried, applied, ended, orphaned, deleted, cut, removed, swept}
use Rattle.rules.specs.Kept.{good_number, in_time, is_fresh, owner_ok, queue_ok}
use Rattle.rules.proofs.Laws.{by_case, and_true, both, pushed_room}
use Rattle.rules.proofs.Tests.{all_imp, all_snoc, all_keep, length-keep}
use Rattle.rules.proofs.Accepts.{run_ok}
use Rattle.rules.proofs.KeptParts.{CacheKept, SlotsKept, HandOk, Kept}
use Rattle.rules.proofs.Buffer.{is_oldest-oldest, is_oldest_lem, has_row, has_snoc_false, once_snoc, hand_rows, pending-unbuffer, nums_unbuffer, has-keep-false, once_keep, hand_unbuffer, pending_rows, hand_keep, in_any, buffered_nums, row_room, carried_row}
use Rattle.rules.proofs.Sweeping.{rows_left, row_stays}
use Rattle.rules.proofs.KeptTables.{buffer_carry, buffer_delete, buffer_sweep}

pub kept_hands : {p : Plant} (w : ℕ) (h : Hand) (q : Queue) → (w < worker_count → HandOk p.rows p.buffer h) → queue_ok p.clock q ≡ true
    → Kept p → Kept (with_hand w h (with_queue q p))
kept_hands {p} w h q o e k =
    record {
      store = k.store;
      keys = k.keys;
      cache = k.cache;
      slots = k.slots;
      fresh = k.fresh;
      buffer = k.buffer;
      rows = k.rows;
      hands = λ v lt. by_case (eqb v w) (λ t. rw t (o (rw (eqb-true v w t) at lt))) (λ t. rw t (k.hands v lt));
      queue = e;
      clock = k.clock;
      begun = k.begun;
      next = k.next;
    }

pub kept_take : {p : Plant} (w : ℕ) → w < worker_count → is_empty p.buffer ≡ false → Kept p → Kept (taken w p)
unfolding taken
kept_take {p} w lt e k =
    kept_hands w (holds (oldest p.buffer) false) (leased (some w) p.clock) (λ z. inr (refl, is_oldest-oldest p.buffer e))
    (both (in_time p.clock p.clock) (ltb w worker_count)
    (both (leb p.clock p.clock) (ltb p.clock (p.clock + lease_ticks)) (le-leb p.clock p.clock (omega arith))
    (lt-ltb p.clock (p.clock + lease_ticks) (omega arith)))
    (lt-ltb w worker_count lt)) k

pub queue_orphaned : (w clock : ℕ) (q : Queue) → queue_ok clock q ≡ true → queue_ok clock (orphaned w q) ≡ true
queue_orphaned w clock idle e = refl
queue_orphaned w clock (leased o t) e =
    by_case (owned_by w o) (λ z. rw z (both (in_time clock t) true (and_true (in_time clock t) (owner_ok o) e).0 refl)) (λ z. rw z e)

pub queue_ended : (w clock : ℕ) (q : Queue) → queue_ok clock q ≡ true → queue_ok clock (ended w q) ≡ true
queue_ended w clock idle e = refl
queue_ended w clock (leased o t) e = by_case (owned_by w o) (λ z. rw z) (λ z. rw z e)

pub kept_cut : {p : Plant} (w : ℕ) → Kept p → Kept (cut w p)
unfolding cut
kept_cut {p} w k = kept_hands w empty (orphaned w p.queue) (λ z. tt) (queue_orphaned w p.clock p.queue k.queue) k

pub oldest_buffered : (n : ℕ) (l : List Batch) → is_oldest n l ≡ true → is_buffered n l ≡ true
oldest_buffered n [] e = absurd (true≢false (sym e))
oldest_buffered n (b ∷ l) e = rw e

pub kept_carry : {p : Plant} (n : ℕ) → (has n p.rows ≡ false → is_oldest n p.buffer ≡ true)
    → leb row_limit (length p.rows) && not (has n p.rows) ≡ false → Kept p → Kept (carried n p)
unfolding carried
kept_carry {p} n old sp k =
    by_case (has n p.rows) (λ e. rw e k) (λ e. rw (e, pushed_room row_limit p.rows n (row_room n p.rows sp e)) (go e (old e)))
  where
    go : has n p.rows ≡ false → is_oldest n p.buffer ≡ true
        → Kept (with_store (follow p.store (batch_of n p.buffer)) (with_rows (p.rows ++ (n ∷ [])) p))
    go e o =
        let c = buffer_carry p.buffer n o e k.buffer in
        record {
          store = λ q r. run_ok (batch_of n p.buffer) q (p.store q) c.formed (k.store q r);
          keys = k.keys;
          cache = subst (λ (z : Stock). CacheKept z p.keys p.next p.cache) (sym c.same) k.cache;
          slots = subst (λ (z : Stock). SlotsKept z p.clock p.next p.slots) (sym c.same) k.slots;
          fresh =
              all_imp (λ x. is_fresh p.buffer p.rows x.number) (λ x. is_fresh p.buffer (p.rows ++ (n ∷ [])) x.number)
              (λ x z. fresh' x.number z) p.slots k.fresh;
          buffer = c.kept;
          rows = record {
            few = rw (length-append p.rows (n ∷ [])) (omega (arith, row_room n p.rows sp e));
            once = once_snoc n p.rows e k.rows.once;
            numbers = all_snoc (good_number p.next) p.rows n k.rows.numbers c.number;
          };
          hands = λ w lt. hand_rows n p.rows p.buffer (p.hands w) (k.hands w lt);
          queue = k.queue;
          clock = k.clock;
          begun = k.begun;
          next = k.next;
        }
      where
        fresh' : (m : ℕ) → is_fresh p.buffer p.rows m ≡ true → is_fresh p.buffer (p.rows ++ (n ∷ [])) m ≡ true
        fresh' m z =
            let y = and_true (not (is_buffered m p.buffer)) (not (has m p.rows)) z in
            both (not (is_buffered m p.buffer)) (not (has m (p.rows ++ (n ∷ [])))) y.0
            (rw (has_snoc_false m n p.rows (not-true _ y.1)
            (by_case (eqb m n) (λ t. absurd
            (true≢false (sym (oldest_buffered n p.buffer o) ∙ rw (eqb-true m n t) at (not-true (is_buffered m p.buffer) y.0)))) (λ t. t))))

pub kept_apply : {p : Plant} (fate : Fate) (w : ℕ) → w < worker_count → full (p.hands w) ≡ true
    → same_case fate_number fate arrives && no_room w p ≡ false → Kept p → Kept (applied fate w p)
unfolding applied
kept_apply {p} fate w lt f room k = go fate room
  where
    n : ℕ
    n = handed (p.hands w)

    there : no_room w p ≡ false → Kept (carried n p)
    there sp = kept_carry n (λ e. is_oldest_lem p.rows p.buffer (p.hands w) f e (k.hands w lt)) sp k

    answered : no_room w p ≡ false → Kept (with_hand w (holds n true) (carried n p))
    answered sp = let c = there sp in kept_hands w (holds n true) (carried n p).queue (λ z. inl (carried_row n p sp)) c.queue c

    go : (x : Fate) → same_case fate_number x arrives && no_room w p ≡ false → Kept (applied x w p)
    go arrives sp = answered sp
    go lost sp = by_case (no_room w p) (λ e. rw e k) (λ e. rw e (there e))
    go unreached sp = k

pub kept_delete : {p : Plant} (w : ℕ) → w < worker_count → full (p.hands w) ≡ true → replied (p.hands w) ≡ true → Kept p → Kept (deleted w p)
unfolding deleted
kept_delete {p} w lt f r k =
    kept_hands {p =
    with_buffer (unbuffer (handed (p.hands w))
    p.buffer) p} w empty (ended w p.queue) (λ z. tt) (queue_ended w p.clock p.queue k.queue)
    record {
      store = k.store;
      keys = k.keys;
      cache = subst (λ (z : Stock). CacheKept z p.keys p.next p.cache) (sym same) k.cache;
      slots = subst (λ (z : Stock). SlotsKept z p.clock p.next p.slots) (sym same) k.slots;
      fresh =
          all_imp (λ x. is_fresh p.buffer p.rows x.number) (λ x. is_fresh (unbuffer n p.buffer) p.rows x.number)
          (λ x z. fresh' x.number z) p.slots k.fresh;
      buffer = buffer_delete n row k.buffer;
      rows = k.rows;
      hands = λ v lv. hand_unbuffer n p.rows p.buffer (p.hands v) row (k.hands v lv);
      queue = k.queue;
      clock = k.clock;
      begun = k.begun;
      next = k.next;
    }
  where
    n : ℕ
    n = handed (p.hands w)

    row : has n p.rows ≡ true
    row = has_row p.rows p.buffer (p.hands w) f r (k.hands w lt)

    same : follow p.store (changes_in (pending p.rows (unbuffer n p.buffer))) ≡ current p
    same = ap (λ z. follow p.store (changes_in z)) (pending-unbuffer n p.rows p.buffer row)

    fresh' : (m : ℕ) → is_fresh p.buffer p.rows m ≡ true → is_fresh (unbuffer n p.buffer) p.rows m ≡ true
    fresh' m z =
        let y = and_true (not (is_buffered m p.buffer)) (not (has m p.rows)) z in
        both (not (is_buffered m (unbuffer n p.buffer))) (not (has m p.rows))
        (rw (
          buffered_nums m (unbuffer n p.buffer),
          nums_unbuffer n p.buffer,
          has-keep-false (λ i. not (eqb n i)) m (numbers_of p.buffer)
              (sym (buffered_nums m p.buffer) ∙ not-true _ y.0),
        ))
        y.1

pub kept_sweep : {p : Plant} → Kept p → Kept (swept p)
unfolding swept
kept_sweep {p} k =
    record {
      store = k.store;
      keys = k.keys;
      cache = subst (λ (z : Stock). CacheKept z p.keys p.next p.cache) (sym same) k.cache;
      slots = subst (λ (z : Stock). SlotsKept z p.clock p.next p.slots) (sym same) k.slots;
      fresh =
          all_imp (λ x. is_fresh p.buffer p.rows x.number) (λ x. is_fresh p.buffer rows' x.number) (λ x z. fresh' x.number z)
          p.slots k.fresh;
      buffer = buffer_sweep left in_buffer k.buffer;
      rows = record {
        few = omega (arith, length-keep left p.rows, k.rows.few);
        once = once_keep left p.rows k.rows.once;
        numbers = all_keep (good_number p.next) left p.rows k.rows.numbers;
      };
      hands = λ w lt. hand_keep p.rows rows' p.buffer (p.hands w) (λ n e. row_stays p n (inr (in_any p.hands n w lt e))) (k.hands w lt);
      queue = k.queue;
      clock = k.clock;
      begun = k.begun;
      next = k.next;
    }
  where
    left : ℕ → Bool
    left n = not (has n (removed p))

    rows' : List ℕ
    rows' = rows_left p

    in_buffer : (n : ℕ) → has n (numbers_of p.buffer) ≡ true → has n rows' ≡ has n p.rows
    in_buffer n e = row_stays p n (inl (buffered_nums n p.buffer ∙ e))

    same : follow p.store (changes_in (pending rows' p.buffer)) ≡ current p
    same = ap (λ z. follow p.store (changes_in z)) (pending_rows p.rows rows' p.buffer in_buffer)

    fresh' : (m : ℕ) → is_fresh p.buffer p.rows m ≡ true → is_fresh p.buffer rows' m ≡ true
    fresh' m z =
        let y = and_true (not (is_buffered m p.buffer)) (not (has m p.rows)) z in
        both (not (is_buffered m p.buffer)) (not (has m rows')) y.0 (rw (has-keep-false left m p.rows (not-true _ y.1)))

pub kept_near : {p : Plant} (b : Bool) → Kept p → Kept (with_near b p)
kept_near b k =
    record {
      store = k.store;
      keys = k.keys;
      cache = k.cache;
      slots = k.slots;
      fresh = k.fresh;
      buffer = k.buffer;
      rows = k.rows;
      hands = k.hands;
      queue = k.queue;
      clock = k.clock;
      begun = k.begun;
      next = k.next;
    }
