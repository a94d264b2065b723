-- The test of the plant's rules decides them.
use Prim.Native.Nat.{◌<◌, suc, ℕ}
use mathlib.Core.Path.{◌∙◌, ◌≡◌, ap, refl, subst, sym}
use mathlib.Core.Bool.{Bool, ◌&&◌, ◌||◌, false, not, true, true≢false}
use mathlib.Core.Logic.{◌↔◌, inl, inr}
use mathlib.Core.List.{List, [], ◌∷◌, map}
use lib.ListN.{length}
use lib.Dec.{eqb, ltb}
use lib.IntN.{negsuc, pos, ℤ}
use borrow.Author.Tests.{eqb-false, eqb-true, le-leb, leb-true, lt-ltb, ltb-true, not-true}
use Rattle.rules.specs.Lists.{all, pairwise, same_list, has, upto, every}
use Rattle.rules.specs.Limits.{document_count, field_count, key_count, cache_limit, slot_limit, buffer_limit, row_limit, worker_count, last_tick, last_session}
use Rattle.rules.specs.Values.{eq_z, Place, in_range, Field, absent, number, list, field_ok, Stock, same_field}
use Rattle.rules.specs.Changes.{run, sets_it}
use Rattle.rules.specs.Tables.{Lease, is_held, is_exclusive, documents, Slot, has_slot, session, Cached, Batch, numbers_of, is_oldest, Hand, empty, holds, Plant, setup}
use Rattle.rules.specs.Reading.{current}
use Rattle.rules.specs.Step.{step}
use Rattle.rules.specs.Kept.{all_places, key_ok, cache_rules, apart_at, are_apart, slot_rules, only_oldest_applied, applied_shows, buffer_rules, row_rules, hand_ok, plant_rules, kept}
use Rattle.rules.specs.Claims.{SetupKept, StepKeeps}
use Rattle.rules.proofs.Laws.{by_case, self, or_one, and_true, both}
use Rattle.rules.proofs.Tests.{once_is, once_test, same_list_is, same_list_refl, all-upto, upto_all}
use Rattle.rules.proofs.Slots.{no_slot}
use Rattle.rules.proofs.KeptParts.{CachedRight, CacheKept, SlotsKept, NoRows, TailFree, RowShown, BufferKept, RowsKept, HandOk, Kept}
use Rattle.rules.proofs.KeptSlots.{later, Ordered, order_head, order_tail, look_all, Apart}
use Rattle.rules.proofs.KeptSessions.{all_look}
use Rattle.rules.proofs.Kept.{setup_kept_lem, step_keeps_lem}

-- ── conjunctions ──
abbrev pub Every : List Bool → Type 0
Every [] = Unit {0}
Every (b ∷ l) = (b ≡ true) × Every l

pub every-parts : (l : List Bool) → every l ≡ true → Every l
every-parts [] e = tt
every-parts (b ∷ l) e = ((and_true b (every l) e).0, every-parts l (and_true b (every l) e).1)

pub parts-every : (l : List Bool) → Every l → every l ≡ true
parts-every [] h = refl
parts-every (b ∷ l) h = both b (every l) h.0 (parts-every l h.1)

-- ── places ──
pub places_at : (t : Place → Bool) (q : Place) → all_places t ≡ true → in_range q ≡ true → t q ≡ true
unfolding documents
places_at t q a r =
    let h = and_true (ltb q.document document_count) (ltb q.field field_count) r in
    all-upto (λ f. t (record { document = q.document; field = f })) field_count q.field
    (all-upto (λ d. all (λ f. t (record { document = d; field = f })) (upto field_count)) document_count q.document a
    (ltb-true q.document document_count h.0))
    (ltb-true q.field field_count h.1)

pub places_all : (t : Place → Bool) → ((q : Place) → in_range q ≡ true → t q ≡ true) → all_places t ≡ true
unfolding documents
places_all t h =
    upto_all (λ d. all (λ f. t (record { document = d; field = f })) (upto field_count)) document_count
    (λ d ld. upto_all (λ f. t (record { document = d; field = f })) field_count
    (λ f lf. h (record { document = d; field = f })
    (both (ltb d document_count) (ltb f field_count) (lt-ltb d document_count ld) (lt-ltb f field_count lf))))

-- ── equal fields ──
pub eq_z_is : (a b : ℤ) → eq_z a b ≡ true → a ≡ b
eq_z_is (pos a) (pos b) e = ap pos (eqb-true a b e)
eq_z_is (pos a) (negsuc b) e = absurd (true≢false (sym e))
eq_z_is (negsuc a) (pos b) e = absurd (true≢false (sym e))
eq_z_is (negsuc a) (negsuc b) e = ap negsuc (eqb-true a b e)

pub eq_z-refl : (a : ℤ) → eq_z a a ≡ true
eq_z-refl (pos a) = self a
eq_z-refl (negsuc a) = self a

pub field_is : (f g : Field) → same_field f g ≡ true → f ≡ g
field_is absent absent e = refl
field_is absent (number b) e = absurd (true≢false (sym e))
field_is absent (list m) e = absurd (true≢false (sym e))
field_is (number a) absent e = absurd (true≢false (sym e))
field_is (number a) (number b) e = ap number (eq_z_is a b (and_true (eq_z a b) true e).0)
field_is (number a) (list m) e = absurd (true≢false (sym e))
field_is (list l) absent e = absurd (true≢false (sym e))
field_is (list l) (number b) e = absurd (true≢false (sym e))
field_is (list l) (list m) e = ap list (same_list_is eq_z eq_z_is l m e)

pub field_refl : (f : Field) → same_field f f ≡ true
field_refl absent = refl
field_refl (number a) = both (eq_z a a) true (eq_z-refl a) refl
field_refl (list l) = same_list_refl eq_z eq_z-refl l

-- ── cached keys ──
right_is : (now : Stock) (keys : ℕ → List Place) (l : List Cached) → all (λ c. same_list same_field c.fields (map now (keys c.key))) l ≡ true
    → CachedRight now keys l
right_is now keys [] e = tt
right_is now keys (c ∷ l) e =
    let h = and_true (same_list same_field c.fields (map now (keys c.key)))
    (all (λ x. same_list same_field x.fields (map now (keys x.key))) l) e in
    (same_list_is same_field field_is c.fields (map now (keys c.key)) h.0, right_is now keys l h.1)

right_test : (now : Stock) (keys : ℕ → List Place) (l : List Cached) → CachedRight now keys l
    → all (λ c. same_list same_field c.fields (map now (keys c.key))) l ≡ true
right_test now keys [] h = refl
right_test now keys (c ∷ l) h =
    both (same_list same_field c.fields (map now (keys c.key))) (all (λ x. same_list same_field x.fields (map now (keys x.key))) l)
    (subst (λ z. same_list same_field c.fields z ≡ true) h.0 (same_list_refl same_field field_refl c.fields)) (right_test now keys l h.1)

pub cache_iff : (now : Stock) (keys : ℕ → List Place) (next : ℕ) (l : List Cached)
    → (every (cache_rules now keys next l) ≡ true) ↔ CacheKept now keys next l
cache_iff now keys next l = (
  (λ e. let h = every-parts (cache_rules now keys next l) e in
      record {
        few =
            leb-true (length l) cache_limit h.0;
        once =
            once_is (map (λ c. c.key) l) h.1.0;
        defined = h.1.1.0;
        fields = right_is now keys l
            h.1.1.1.0;
        after_begin = h.1.1.1.1.0;
      }),
  (λ k. parts-every (cache_rules now keys next l) (
    le-leb (length l) cache_limit k.few,
    (once_test (map (λ c. c.key) l) k.once, (k.defined, (right_test now keys l k.fields, (k.after_begin, tt)))),
  )),
)

-- ── leases apart ──
apart_left : (x y : Lease) → apart_at x y ≡ true → is_exclusive x ≡ true → is_held y ≡ false
apart_left x y e h =
    ap (λ b. b && is_held y) (sym h) ∙ not-true (is_exclusive x && is_held y)
    (and_true (not (is_exclusive x && is_held y)) (not (is_held x && is_exclusive y)) e).0

apart_right : (x y : Lease) → apart_at x y ≡ true → is_exclusive y ≡ true → is_held x ≡ false
apart_right x y e h =
    go (is_held x) (is_exclusive y) h
    (not-true (is_held x && is_exclusive y) (and_true (not (is_exclusive x && is_held y)) (not (is_held x && is_exclusive y)) e).1)
  where
    go : (a b : Bool) → b ≡ true → a && b ≡ false → a ≡ false
    go true b u v = absurd (true≢false (sym u ∙ v))
    go false b u v = refl

apart_make : (x y : Lease) → (is_exclusive x ≡ true → is_held y ≡ false) → (is_exclusive y ≡ true → is_held x ≡ false) → apart_at x y ≡ true
apart_make x y f g =
    both (not (is_exclusive x && is_held y)) (not (is_held x && is_exclusive y))
    (by_case (is_exclusive x) (λ e. rw (e, f e)) (λ e. rw e))
    (by_case (is_exclusive y) (λ e. rw (g e)) (λ e. rw e (zero_right (is_held x))))
  where
    zero_right : (b : Bool) → not (b && false) ≡ true
    zero_right true = refl
    zero_right false = refl

no_slot_free : (m d : ℕ) (l : List Slot) → has_slot m l ≡ false → is_held ((session m l).lease d) ≡ false
no_slot_free m d l e = ap (λ s. is_held (s.lease d)) (no_slot m l e)

ex_slot : (n d : ℕ) (l : List Slot) → is_exclusive ((session n l).lease d) ≡ true → has_slot n l ≡ true
ex_slot n d l x = by_case (has_slot n l) (λ e. e) (λ e. absurd (true≢false (sym x ∙ ap (λ s. is_exclusive (s.lease d)) (no_slot n l e))))

apart_is : (l : List Slot) → pairwise (λ a b. are_apart a.session b.session) l ≡ true → Apart (λ n. session n l)
unfolding documents
apart_is [] e n m d lt ne x = refl
apart_is (s ∷ l) e n m d lt ne x =
    by_case (eqb n s.number)
    (λ t. by_case (eqb m s.number)
    (λ u. absurd (ne (eqb-true n s.number t ∙ sym (eqb-true m s.number u))))
    (λ u. rw u (by_case (has_slot m l) (λ h. apart_left (s.session.lease d) ((session m l).lease d) (at_doc m h) (rw t at x))
    (λ h. no_slot_free m d l h))))
    (λ t. by_case (eqb m s.number)
    (λ u. rw u (let y : is_exclusive ((session n l).lease d) ≡ true = rw t at x in apart_right (s.session.lease d) ((session n l).lease d)
    (at_doc n (ex_slot n d l y)) y))
    (λ u. rw u (apart_is l parts.1 n m d lt ne (rw t at x))))
  where
    parts : (all (λ b. are_apart s.session b.session) l ≡ true) × (pairwise (λ a b. are_apart a.session b.session) l ≡ true)
    parts = and_true (all (λ b. are_apart s.session b.session) l) (pairwise (λ a b. are_apart a.session b.session) l) e

    at_doc : (k : ℕ) → has_slot k l ≡ true → apart_at (s.session.lease d) ((session k l).lease d) ≡ true
    at_doc k h =
        all-upto (λ i. apart_at (s.session.lease i) ((session k l).lease i)) document_count d
        (look_all (are_apart s.session) k l parts.0 h) lt

apart_test : (l : List Slot) → Ordered l → Apart (λ n. session n l) → pairwise (λ a b. are_apart a.session b.session) l ≡ true
unfolding documents
apart_test [] o h = refl
apart_test (s ∷ l) o h =
    both (all (λ b. are_apart s.session b.session) l) (pairwise (λ a b. are_apart a.session b.session) l)
    (all_look (are_apart s.session) l (order_tail s l o)
    (λ n t. upto_all (λ d. apart_at (s.session.lease d) ((session n l).lease d)) document_count
    (λ d lt. with_head n d t lt (later s.number n l (order_head s l o) t))))
    (apart_test l (order_tail s l o) in_tail)
  where
    with_head : (n d : ℕ) → has_slot n l ≡ true → d < document_count → eqb n s.number ≡ false
        → apart_at (s.session.lease d) ((session n l).lease d) ≡ true
    with_head n d t lt e =
        apart_make (s.session.lease d) ((session n l).lease d)
        (λ x. rw e at (h s.number n d lt (λ q. eqb-false n s.number e (sym q)) (rw (self s.number) x)))
        (λ x. rw (self s.number) at (h n s.number d lt (eqb-false n s.number e) (rw e x)))

    in_tail : Apart (λ n. session n l)
    in_tail n m d lt ne x =
        by_case (has_slot m l)
        (λ t. rw (later s.number m l (order_head s l o) t) at (h n m d lt ne (rw (later s.number n l (order_head s l o) (ex_slot n d l x)) x)))
        (λ t. no_slot_free m d l t)

pub slots_iff : (now : Stock) (clock next : ℕ) (l : List Slot) → (every (slot_rules now clock next l) ≡ true) ↔ SlotsKept now clock next l
slots_iff now clock next l = (
  (λ e. let h = every-parts (slot_rules now clock next l) e in
      record {
        few =
            leb-true (length l) slot_limit h.0;
        order = h.1.0;
        numbers = h.1.1.0;
        ok = h.1.1.1.0;
        apart = apart_is l h.1.1.1.1.0;
      }),
  (λ k. parts-every (slot_rules now clock next l)
      (le-leb (length l) slot_limit k.few, (k.order, (k.numbers, (k.ok, (apart_test l k.order k.apart, tt)))))),
)

-- ── the buffer ──
no_rows_is : (rows : List ℕ) (l : List Batch) → all (λ c. not (has c.number rows)) l ≡ true → NoRows rows l
no_rows_is rows [] e = tt
no_rows_is rows (b ∷ l) e =
    let h = and_true (not (has b.number rows)) (all (λ c. not (has c.number rows)) l) e in
    (not-true (has b.number rows) h.0, no_rows_is rows l h.1)

no_rows_test : (rows : List ℕ) (l : List Batch) → NoRows rows l → all (λ c. not (has c.number rows)) l ≡ true
no_rows_test rows [] h = refl
no_rows_test rows (b ∷ l) h = both (not (has b.number rows)) (all (λ c. not (has c.number rows)) l) (ap not h.0) (no_rows_test rows l h.1)

tail_is : (rows : List ℕ) (l : List Batch) → only_oldest_applied rows l ≡ true → TailFree rows l
tail_is rows [] e = tt
tail_is rows (b ∷ l) e = no_rows_is rows l e

tail_test : (rows : List ℕ) (l : List Batch) → TailFree rows l → only_oldest_applied rows l ≡ true
tail_test rows [] h = refl
tail_test rows (b ∷ l) h = no_rows_test rows l h

or_right : (a b : Bool) → a ≡ false → a || b ≡ true → b ≡ true
or_right true b e h = absurd (true≢false e)
or_right false b e h = h

shown_is : (store : Stock) (rows : List ℕ) (l : List Batch) → applied_shows store rows l ≡ true → RowShown store rows l
shown_is store rows [] e = tt
shown_is store rows (b ∷ l) e = λ h q r t.
    field_is (store q) (run b.changes q absent)
    (or_right (not (sets_it b.changes q)) (same_field (store q) (run b.changes q absent)) (ap not t)
    (places_at (λ i. not (sets_it b.changes i) || same_field (store i) (run b.changes i absent)) q
    (or_right (not (has b.number rows)) (all_places (λ i. not (sets_it b.changes i) || same_field (store i) (run b.changes i absent)))
    (ap not h) e) r))

shown_test : (store : Stock) (rows : List ℕ) (l : List Batch) → RowShown store rows l → applied_shows store rows l ≡ true
shown_test store rows [] h = refl
shown_test store rows (b ∷ l) h =
    by_case (has b.number rows)
    (λ e. ap (λ z. not z || all_places test) e ∙ places_all test (λ q r. at_place e q r))
    (λ e. ap (λ z. not z || all_places test) e)
  where
    test : Place → Bool
    test q = not (sets_it b.changes q) || same_field (store q) (run b.changes q absent)

    at_place : has b.number rows ≡ true → (q : Place) → in_range q ≡ true → test q ≡ true
    at_place e q r =
        by_case (sets_it b.changes q)
        (λ t. ap (λ z. not z || same_field (store q) (run b.changes q absent)) t ∙ subst (λ z. same_field (store q) z ≡ true) (h e q r t)
        (field_refl (store q)))
        (λ t. ap (λ z. not z || same_field (store q) (run b.changes q absent)) t)

pub buffer_iff : (store : Stock) (rows : List ℕ) (next : ℕ) (l : List Batch)
    → (every (buffer_rules store rows next l) ≡ true) ↔ BufferKept store rows next l
buffer_iff store rows next l = (
  (λ e. let h = every-parts (buffer_rules store rows next l) e in
      record {
        few = leb-true (length l) buffer_limit h.0;
        once = once_is (numbers_of l) h.1.0;
        ok = h.1.1.0;
        tail = tail_is rows l h.1.1.1.0;
        pending_ok = h.1.1.1.1.0;
        shown = shown_is store rows l h.1.1.1.1.1.0;
      }),
  (λ k. parts-every (buffer_rules store rows next l) (
    le-leb (length l) buffer_limit k.few,
    (once_test (numbers_of l) k.once, (k.ok, (tail_test rows l k.tail, (k.pending_ok, (shown_test store rows l k.shown, tt))))),
  )),
)

pub rows_iff : (next : ℕ) (rows : List ℕ) → (every (row_rules next rows) ≡ true) ↔ RowsKept next rows
rows_iff next rows = (
  (λ e. let h = every-parts (row_rules next rows) e in record {
    few = leb-true (length rows) row_limit h.0;
    once = once_is rows h.1.0;
    numbers = h.1.1.0;
  }),
  (λ k. parts-every (row_rules next rows) (le-leb (length rows) row_limit k.few, (once_test rows k.once, (k.numbers, tt)))),
)

-- ── hands ──
hand_is : (rows : List ℕ) (buffer : List Batch) (x : Hand) → hand_ok rows buffer x ≡ true → HandOk rows buffer x
hand_is rows buffer empty e = tt
hand_is rows buffer (holds m r) e =
    by_case (has m rows) (λ t. inl t)
    (λ t. let h = and_true (not r) (is_oldest m buffer) (or_right (has m rows) (not r && is_oldest m buffer) t e) in inr (not-true r h.0, h.1))

hand_test : (rows : List ℕ) (buffer : List Batch) (x : Hand) → HandOk rows buffer x → hand_ok rows buffer x ≡ true
hand_test rows buffer empty h = refl
hand_test rows buffer (holds m r) (inl h) = rw h
hand_test rows buffer (holds m r) (inr h) = rw (h.0, h.1) (or_one (has m rows))

-- ── the plant ──
pub kept_iff : (p : Plant) → (kept p ≡ true) ↔ Kept p
unfolding kept
kept_iff p = (
  (λ e. let h = every-parts (plant_rules p) e in
      record {
        store = λ q r. places_at (λ i. field_ok (p.store i)) q h.0 r;
        keys = λ k lt. all-upto (λ i. key_ok (p.keys i)) key_count k h.1.0 lt;
        cache = (cache_iff (current p) p.keys p.next p.cache).0 h.1.1.0;
        slots = (slots_iff (current p) p.clock p.next p.slots).0 h.1.1.1.0;
        fresh = h.1.1.1.1.0;
        buffer = (buffer_iff p.store p.rows p.next p.buffer).0 h.1.1.1.1.1.0;
        rows = (rows_iff p.next p.rows).0 h.1.1.1.1.1.1.0;
        hands =
            λ w lt. hand_is p.rows p.buffer (p.hands w)
            (all-upto (λ i. hand_ok p.rows p.buffer (p.hands i)) worker_count w h.1.1.1.1.1.1.1.0 lt);
        queue = h.1.1.1.1.1.1.1.1.0;
        clock = leb-true p.clock last_tick h.1.1.1.1.1.1.1.1.1.0;
        begun = leb-true 1 p.next h.1.1.1.1.1.1.1.1.1.1.0;
        next = leb-true p.next (suc last_session) h.1.1.1.1.1.1.1.1.1.1.1.0;
      }),
  (λ k. parts-every (plant_rules p) (
    places_all (λ i. field_ok (p.store i)) k.store,
    (
      upto_all (λ i. key_ok (p.keys i)) key_count k.keys,
      (
        (cache_iff (current p) p.keys p.next p.cache).1 k.cache,
        (
          (slots_iff (current p) p.clock p.next p.slots).1 k.slots,
          (
            k.fresh,
            (
              (buffer_iff p.store p.rows p.next p.buffer).1 k.buffer,
              (
                (rows_iff p.next p.rows).1 k.rows,
                (
                  upto_all (λ i. hand_ok p.rows p.buffer (p.hands i)) worker_count
                      (λ w lt. hand_test p.rows p.buffer (p.hands w) (k.hands w lt)),
                  (
                    k.queue,
                    (
                      le-leb p.clock last_tick k.clock,
                      (
                        le-leb 1 p.next k.begun,
                        (le-leb p.next (suc last_session) k.next, tt),
                      ),
                    ),
                  ),
                ),
              ),
            ),
          ),
        ),
      ),
    ),
  )),
)

-- ── the claims ──
pub setup_is_kept : SetupKept
setup_is_kept = (kept_iff setup).1 setup_kept_lem

pub kept_step : StepKeeps
kept_step c lent p k = (kept_iff (step c lent p).plant).1 (step_keeps_lem c lent p ((kept_iff p).0 k))
