-- The rules of the plant are kept by refusals, load, map and begin.
use Prim.Native.Nat.{suc, ℕ}
use native.Mathlib.Omega.{arith}
use mathlib.Core.Path.{◌≡◌, refl, subst, sym}
use mathlib.Core.Bool.{Bool, ◌&&◌, false, not, true, true≢false}
use mathlib.Core.Option.{Option, none, some}
use mathlib.Core.List.{List, [], ◌++◌, ◌∷◌, map}
use lib.ListN.{length}
use lib.Dec.{eqb, leb, ltb}
use lib.IntN.{negsuc, pos, ℤ}
use borrow.Author.Tests.{eqb-true, leb-true, lt-ltb, ltb-false}
use Rattle.rules.specs.Lists.{any, all, pushed, is_empty, override, has}
use Rattle.rules.specs.Limits.{document_count, field_count, slot_limit, last_session}
use Rattle.rules.specs.Refusals.{Refusal, ends_session}
use Rattle.rules.specs.Values.{below, nat_of, Place, in_range, Stock}
use Rattle.rules.specs.Changes.{kind_of, Update, follow, good_value, good_kind, place_of, update_of, update_ok}
use Rattle.rules.specs.Tables.{Slot, has_slot, freed, Cached, Batch, numbers_of, is_buffered, pending, changes_in, Plant, with_slots}
use Rattle.rules.specs.Reading.{current}
use Rattle.rules.specs.Calls.{Pair, Pairs, pairs_in, places_of, Call}
use Rattle.rules.specs.Conditions.{good_place, good_pairs, good_change, ever_begun}
use Rattle.rules.specs.Effects.{loaded, mapped, opened, first_doomed, room, begun}
use Rattle.rules.specs.Step.{session_of, ending, after_refusal}
use Rattle.rules.specs.Kept.{key_ok, good_number, is_fresh, batch_ok}
use Rattle.rules.proofs.Laws.{by_case, or_one, and_true, both, pushed_room}
use Rattle.rules.proofs.Tests.{all_head, all_tail, all_imp, all_snoc, all_keep}
use Rattle.rules.proofs.Accepts.{run_ok}
use Rattle.rules.proofs.KeptParts.{CacheKept, SlotsKept, BufferKept, Kept}
use Rattle.rules.proofs.Buffer.{buffered_nums}
use Rattle.rules.proofs.KeptSlots.{slots_end, number_less, number_later, room_fits, slots_room, slots_open}
use Rattle.rules.proofs.KeptTables.{numbers_nil, not_next, batch_number, batch_later, nums_good, early_cache, cache_nil}

-- ── arguments in range ──
pub below_test : (z : ℤ) (n : ℕ) → below z n ≡ true → ltb (nat_of z) n ≡ true
below_test (pos k) n e = e
below_test (negsuc k) n e = absurd (true≢false (sym e))

pub place_ok : (d f : ℤ) → good_place d f ≡ true → in_range (place_of d f) ≡ true
place_ok d f e =
    let h = and_true (below d document_count) (below f field_count) e in
    both (ltb (nat_of d) document_count) (ltb (nat_of f) field_count) (below_test d document_count h.0) (below_test f field_count h.1)

pub update_ok_lem : (d f k v : ℤ) → good_place d f && good_change k v ≡ true → update_ok (update_of (place_of d f) (nat_of k) v) ≡ true
update_ok_lem d f k v e =
    let h = and_true (good_place d f) (good_change k v) e in
    both (in_range (place_of d f)) (good_value (kind_of (nat_of k)) v) (place_ok d f h.0)
    (and_true (good_kind k) (good_value (kind_of (nat_of k)) v) h.1).1

pub places_ok : (m : Pairs) → good_pairs m ≡ true → all in_range (places_of m) ≡ true
places_ok m e = go (pairs_in m) e
  where
    go : (l : List Pair) → all (λ x. good_place x.document x.field) l ≡ true → all in_range (map (λ x. place_of x.document x.field) l) ≡ true
    go [] h = refl
    go (x ∷ l) h =
        both (in_range (place_of x.document x.field)) (all in_range (map (λ y. place_of y.document y.field) l))
        (place_ok x.document x.field (all_head (λ y. good_place y.document y.field) x l h))
        (go l (all_tail (λ y. good_place y.document y.field) x l h))

-- ── numbers with a slot ──
pub number_look : (P : ℕ → Bool) (n : ℕ) (l : List Slot) → all (λ x. P x.number) l ≡ true → has_slot n l ≡ true → P n ≡ true
number_look P n [] a h = absurd (true≢false (sym h))
number_look P n (x ∷ l) a h =
    by_case (eqb n x.number) (λ e. rw (eqb-true n x.number e) (all_head (λ x. P x.number) x l a))
    (λ e. number_look P n l (all_tail (λ x. P x.number) x l a) (rw e at h))

-- a slot in use: a session has begun
pub has-begun : {p : Plant} (s : ℕ) → has_slot s p.slots ≡ true → Kept p → ltb 1 p.next ≡ true
has-begun {p} s h k =
    let e = number_look (good_number p.next) s p.slots k.slots.numbers h in
    lt-ltb 1 p.next (omega (arith, number_less p.next s e, leb-true 1 s (and_true (leb 1 s) (ltb s p.next) e).0))

-- ── a session ends ──
pub kept_end : {p : Plant} (s : ℕ) → Kept p → Kept (with_slots (freed s p.slots) p)
kept_end {p} s k =
    record {
      store = k.store;
      keys = k.keys;
      cache = k.cache;
      slots = slots_end s k.slots;
      fresh = all_keep (λ x. is_fresh p.buffer p.rows x.number) (λ x. not (eqb s x.number)) p.slots k.fresh;
      buffer = k.buffer;
      rows = k.rows;
      hands = k.hands;
      queue = k.queue;
      clock = k.clock;
      begun = k.begun;
      next = k.next;
    }

pub kept_refused : {p : Plant} (c : Call) (r : Refusal) → Kept p → Kept (after_refusal c r p)
kept_refused {p} c r k = by_case (ends_session r) (λ e. rw e (go (session_of c))) (λ e. rw e k)
  where
    go : (o : Option ℕ) → Kept (ending o p)
    go none = k
    go (some s) = kept_end s k

-- ── set-up ──
pub slots_nil : (now : Stock) (clock next : ℕ) → SlotsKept now clock next []
slots_nil now clock next = record { few = omega arith; order = refl; numbers = refl; ok = refl; apart = λ n m d lt ne x. refl }

pub buffer_nil : (store : Stock) (rows : List ℕ) (next : ℕ) → BufferKept store rows next []
buffer_nil store rows next = record { few = omega arith; once = tt; ok = refl; tail = tt; pending_ok = refl; shown = tt }

pub buffer_numbers : {p : Plant} → Kept p → all (λ b. good_number p.next b.number) p.buffer ≡ true
buffer_numbers {p} k =
    all_imp (batch_ok p.next) (λ b. good_number p.next b.number) (λ b e. batch_number p.next b e) p.buffer k.buffer.ok

pub kept_load : {p : Plant} (c : Update) → update_ok c ≡ true → ever_begun p ≡ false → Kept p → Kept (loaded c p)
unfolding loaded
kept_load {p} c u e k =
    record {
      store = λ q r. run_ok (c ∷ []) q (p.store q) (both (update_ok c) true u refl) (k.store q r);
      keys = k.keys;
      cache =
          subst (λ (l : List Cached). CacheKept now' p.keys p.next l) (sym (early_cache p.cache (ltb 1 p.next) k.cache.after_begin e))
          (cache_nil now' p.keys p.next);
      slots =
          subst (λ (l : List Slot). SlotsKept now' p.clock p.next l)
          (sym (numbers_nil (λ s. s.number) p.next p.slots k.slots.numbers e)) (slots_nil now' p.clock p.next);
      fresh = k.fresh;
      buffer =
          subst (λ (l : List Batch). BufferKept (follow p.store (c ∷ [])) p.rows p.next l)
          (sym (numbers_nil (λ b. b.number) p.next p.buffer (buffer_numbers k) e)) (buffer_nil _ p.rows p.next);
      rows = k.rows;
      hands = k.hands;
      queue = k.queue;
      clock = k.clock;
      begun = k.begun;
      next = k.next;
    }
  where
    now' : Stock
    now' = follow (follow p.store (c ∷ [])) (changes_in (pending p.rows p.buffer))

pub kept_map : {p : Plant} (k : ℕ) (qs : List Place) → key_ok qs ≡ true → ever_begun p ≡ false → Kept p → Kept (mapped k qs p)
unfolding mapped
kept_map {p} key qs o e k =
    record {
      store = k.store;
      keys = λ j lt. by_case (eqb j key) (λ t. rw t o) (λ t. rw t (k.keys j lt));
      cache =
          subst (λ (l : List Cached). CacheKept (current p) (override p.keys key qs) p.next l)
          (sym (early_cache p.cache (ltb 1 p.next) k.cache.after_begin e)) (cache_nil _ _ p.next);
      slots = k.slots;
      fresh = k.fresh;
      buffer = k.buffer;
      rows = k.rows;
      hands = k.hands;
      queue = k.queue;
      clock = k.clock;
      begun = k.begun;
      next = k.next;
    }

-- ── begin ──
pub kept_begin : {p : Plant} → ltb last_session p.next ≡ false
    → leb slot_limit (length p.slots) && not (any (λ s. s.session.doomed) p.slots) ≡ false → Kept p → Kept (begun p)
unfolding begun
kept_begin {p} e r k =
    record {
      store = k.store;
      keys = k.keys;
      cache = record {
        few = k.cache.few;
        once = k.cache.once;
        defined = k.cache.defined;
        fields = k.cache.fields;
        after_begin = rw (lt-ltb 1 (suc p.next) (omega (arith, k.begun))) (or_one (is_empty p.cache));
      };
      slots = rw grown (slots_open k.begun (room_fits p.slots k.slots.few r) (slots_room k.slots));
      fresh = rw grown (all_snoc (λ x. is_fresh p.buffer p.rows x.number) (room p.slots) (opened p.next p.clock) with_room
          (both (not (is_buffered p.next p.buffer)) (not (has p.next p.rows))
          (rw (buffered_nums p.next p.buffer, not_next p.next (numbers_of p.buffer) (nums_good p.next p.buffer k.buffer.ok)))
          (rw (not_next p.next p.rows k.rows.numbers))));
      buffer = record {
        few = k.buffer.few;
        once = k.buffer.once;
        ok =
            all_imp (batch_ok p.next) (batch_ok (suc p.next)) (λ b z. batch_later p.next (suc p.next) b (omega arith) z) p.buffer
            k.buffer.ok;
        tail = k.buffer.tail;
        pending_ok = k.buffer.pending_ok;
        shown = k.buffer.shown;
      };
      rows = record {
        few = k.rows.few;
        once = k.rows.once;
        numbers =
            all_imp (good_number p.next) (good_number (suc p.next)) (λ n z. number_later p.next (suc p.next) n (omega arith) z) p.rows
            k.rows.numbers;
      };
      hands = k.hands;
      queue = k.queue;
      clock = k.clock;
      begun = omega (arith, k.begun);
      next = omega (arith, ltb-false last_session p.next e);
    }
  where
    grown : pushed slot_limit (room p.slots) (opened p.next p.clock) ≡ room p.slots ++ (opened p.next p.clock ∷ [])
    grown = pushed_room slot_limit (room p.slots) (opened p.next p.clock) (room_fits p.slots k.slots.few r)

    with_room : all (λ x. is_fresh p.buffer p.rows x.number) (room p.slots) ≡ true
    with_room =
        by_case (leb slot_limit (length p.slots))
        (λ t. rw t (all_keep (λ x. is_fresh p.buffer p.rows x.number) (λ x. not (eqb (first_doomed p.slots) x.number)) p.slots
        k.fresh))
        (λ t. rw t k.fresh)
