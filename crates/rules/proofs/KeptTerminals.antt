-- The rules of the plant are kept by read, change, commit and advance.
use Prim.Native.Nat.{◌+◌, ◌<◌, ℕ}
use native.Mathlib.Omega.{arith}
use mathlib.Core.Path.{◌∙◌, ◌≡◌, ap, refl, subst, sym}
use mathlib.Core.Bool.{Bool, ◌&&◌, cond, false, not, true, true≢false}
use mathlib.Core.Option.{none}
use mathlib.Core.List.{List, [], ◌++◌, ◌∷◌, map}
use lib.ListN.{length}
use lib.Dec.{eqb, leb, ltb}
use borrow.Author.Tests.{le-leb, leb-false, leb-true, lt-ltb, ltb-false, not-true}
use Rattle.rules.specs.Lists.{keep, any, all, pushed, is_empty, has}
use Rattle.rules.specs.Limits.{key_count, change_limit, buffer_limit, lease_ticks, last_tick}
use Rattle.rules.specs.Values.{Stock}
use Rattle.rules.specs.Changes.{Update, meets, follow, update_ok}
use Rattle.rules.specs.Tables.{has_slot, session, freed, others_exclusive, is_cached, Batch, is_buffered, pending, changes_in, Queue, idle, leased, Plant}
use Rattle.rules.specs.Reading.{current, seen}
use Rattle.rules.specs.Effects.{with_shared, touched, cache_after, only_at, after_read, grant, changed, buffered_after, up_to_date, committed, lapse, lapsed_queue, advanced}
use Rattle.rules.specs.Kept.{good_number, in_time, session_ok, is_fresh, owner_ok, queue_ok}
use Rattle.rules.proofs.Laws.{by_case, eqb-sym, and_true, both, follow_append, pushed_room, nil_is}
use Rattle.rules.proofs.Tests.{all_head, all_tail, all_imp}
use Rattle.rules.proofs.Slots.{has_slot_lem, others_not, none_other}
use Rattle.rules.proofs.KeptParts.{CacheKept, SlotsKept, BufferKept, Kept}
use Rattle.rules.proofs.Buffer.{buffered_nums, hand_last, buffer_room}
use Rattle.rules.proofs.KeptSlots.{LiveParts, live_parts, look_all, numbers_each}
use Rattle.rules.proofs.KeptSessions.{slots_read, slots_change, slots_lapse, slots_commit}
use Rattle.rules.proofs.KeptTables.{flat_commit, buffer_commit, cache_read, cache_update, cache_drop}
use Rattle.rules.proofs.KeptSetup.{number_look, has-begun}

-- ── read ──
pub kept_read : {p : Plant} (s key : ℕ) → key < key_count → (session s p.slots).doomed ≡ false → is_empty (p.keys key) ≡ false
    → any (λ q. others_exclusive s q.document p.slots) (p.keys key) ≡ false → Kept p → Kept (after_read s key p)
unfolding after_read cache_after
kept_read {p} s key lt a d o k =
    record {
      store = k.store;
      keys = k.keys;
      cache =
          by_case (touched (session s p.slots).changes (p.keys key)) (λ e. rw e k.cache)
          (λ e. by_case (is_cached key p.cache) (λ t. rw (e, t) k.cache)
          (λ t. rw (e, t) (cache_read key (has-begun s (has_slot_lem s p.slots a) k) t lt d k.cache)));
      slots = slots_read s (p.keys key) a (λ x n u e. none_other s p.slots (p.keys key) x n o u e) k.slots;
      fresh = numbers_each (is_fresh p.buffer p.rows) (only_at s (with_shared p.clock (p.keys key))) p.slots k.fresh;
      buffer = k.buffer;
      rows = k.rows;
      hands = k.hands;
      queue = k.queue;
      clock = k.clock;
      begun = k.begun;
      next = k.next;
    }

-- ── change ──
pub kept_change : {p : Plant} (s : ℕ) (c : Update) → (session s p.slots).doomed ≡ false → update_ok c ≡ true
    → leb change_limit (length (session s p.slots).changes) ≡ false
    → others_exclusive s c.at.document p.slots ≡ false → meets c (seen p (session s p.slots).changes c.at) ≡ none → Kept p → Kept
    (changed s c p)
unfolding changed
kept_change {p} s c a u f o m k =
    record {
      store = k.store;
      keys = k.keys;
      cache = k.cache;
      slots =
          slots_change s c a u (leb-false change_limit (length (session s p.slots).changes) f) m
          (λ n e. others_not s n c.at.document p.slots o e) k.slots;
      fresh = numbers_each (is_fresh p.buffer p.rows) (grant p.clock s c) p.slots k.fresh;
      buffer = k.buffer;
      rows = k.rows;
      hands = k.hands;
      queue = k.queue;
      clock = k.clock;
      begun = k.begun;
      next = k.next;
    }

-- ── commit ──
-- after a commit the current stock is what the session saw
pub commit_current : (p : Plant) (s : ℕ) → not (is_empty (session s p.slots).changes) && leb buffer_limit (length p.buffer) ≡ false
    → has s p.rows ≡ false → current (committed s p) ≡ seen p (session s p.slots).changes
unfolding committed
commit_current p s r nr =
    by_case (is_empty cs)
    (λ e. ap (λ z. follow p.store (changes_in (pending p.rows (cond z p.buffer (pushed buffer_limit p.buffer b))))) e ∙ ap
    (follow (current p)) (sym (nil_is cs e)))
    (λ e. ap (λ z. follow p.store (changes_in (pending p.rows (cond z p.buffer (pushed buffer_limit p.buffer b))))) e
    ∙ ap (λ (l : List Batch). follow p.store (changes_in (pending p.rows l)))
    (pushed_room buffer_limit p.buffer b (buffer_room cs p.buffer r e)) ∙ ap (follow p.store) (flat_commit p.rows p.buffer b nr)
    ∙ follow_append p.store (changes_in (pending p.rows p.buffer)) cs)
  where
    cs : List Update
    cs = (session s p.slots).changes

    b : Batch
    b = record { number = s; changes = cs }

pub keep_and : {A : Type 0} (f g : A → Bool) (l : List A) → all f l ≡ true → all (λ x. f x && g x) (keep g l) ≡ true
keep_and f g [] e = refl
keep_and f g (x ∷ l) e =
    by_case (g x)
    (λ t. rw t (both (f x && g x) (all (λ y. f y && g y) (keep g l)) (both (f x) (g x) (all_head f x l e) t) (keep_and f g l (all_tail f x l e))))
    (λ t. rw t (keep_and f g l (all_tail f x l e)))

pub buffered_snoc : (n : ℕ) (l : List Batch) (b : Batch) → is_buffered n l ≡ false → eqb n b.number ≡ false → is_buffered n (l ++ (b ∷ [])) ≡ false
buffered_snoc n [] b e h = rw h
buffered_snoc n (x ∷ l) b e h = by_case (eqb n x.number) (λ t. absurd (true≢false (rw t at e))) (λ t. rw t (buffered_snoc n l b (rw t at e) h))

pub kept_commit : {p : Plant} (s : ℕ) → (session s p.slots).doomed ≡ false
    → not (is_empty (session s p.slots).changes) && leb buffer_limit (length p.buffer) ≡ false → Kept p → Kept (committed s p)
unfolding committed
kept_commit {p} s a full? k =
    record {
      store = k.store;
      keys = k.keys;
      cache =
          subst (λ (z : Stock). CacheKept z p.keys p.next (map (up_to_date p.keys (seen p cs)) p.cache)) (sym now_is)
          (cache_update (seen p cs) k.cache);
      slots = subst (λ (z : Stock). SlotsKept z p.clock p.next (freed s p.slots)) (sym now_is) (slots_commit s a k.slots);
      fresh =
          all_imp (λ x. is_fresh p.buffer p.rows x.number && not (eqb s x.number))
          (λ x. is_fresh (buffered_after s cs p.buffer) p.rows x.number) (λ x e. fresh' x.number e) (freed s p.slots)
          (keep_and (λ x. is_fresh p.buffer p.rows x.number) (λ x. not (eqb s x.number)) p.slots k.fresh);
      buffer = by_case (is_empty cs) (λ e. rw e k.buffer) (λ e. rw (e, grown e) (longer e));
      rows = k.rows;
      hands =
          λ w lt. by_case (is_empty cs) (λ e. rw e (k.hands w lt))
          (λ e. rw (e, grown e) (hand_last p.rows p.buffer (b ∷ []) (p.hands w) (k.hands w lt)));
      queue = k.queue;
      clock = k.clock;
      begun = k.begun;
      next = k.next;
    }
  where
    cs : List Update
    cs = (session s p.slots).changes

    b : Batch
    b = record { number = s; changes = cs }

    th : has_slot s p.slots ≡ true
    th = has_slot_lem s p.slots a

    mine : LiveParts (current p) p.clock (session s p.slots)
    mine = live_parts (current p) p.clock (session s p.slots) a (look_all (session_ok (current p) p.clock) s p.slots k.slots.ok th)

    new : (not (is_buffered s p.buffer) ≡ true) × (not (has s p.rows) ≡ true)
    new = and_true (not (is_buffered s p.buffer)) (not (has s p.rows)) (number_look (is_fresh p.buffer p.rows) s p.slots k.fresh th)

    now_is : current (committed s p) ≡ seen p cs
    now_is = commit_current p s full? (not-true _ new.1)

    grown : is_empty cs ≡ false → pushed buffer_limit p.buffer b ≡ p.buffer ++ (b ∷ [])
    grown e = pushed_room buffer_limit p.buffer b (buffer_room cs p.buffer full? e)

    fresh' : (n : ℕ) → is_fresh p.buffer p.rows n && not (eqb s n) ≡ true → is_fresh (buffered_after s cs p.buffer) p.rows n ≡ true
    fresh' n e =
        let x = and_true (is_fresh p.buffer p.rows n) (not (eqb s n)) e in
        let y = and_true (not (is_buffered n p.buffer)) (not (has n p.rows)) x.0 in
        both (not (is_buffered n (buffered_after s cs p.buffer))) (not (has n p.rows))
        (by_case (is_empty cs) (λ t. rw t y.0)
        (λ t. rw (t, grown t, buffered_snoc n p.buffer b (not-true _ y.0) (eqb-sym s n (not-true _ x.1)))))
        y.1

    longer : is_empty cs ≡ false → BufferKept p.store p.rows p.next (p.buffer ++ (b ∷ []))
    longer e =
        buffer_commit b
        (buffer_room cs p.buffer full? e)
        (sym (buffered_nums s p.buffer) ∙ not-true _ new.0) (not-true _ new.1)
        (both (good_number p.next s && not (is_empty cs) && leb (length cs) change_limit) (all update_ok cs)
        (both (good_number p.next s && not (is_empty cs)) (leb (length cs) change_limit)
        (both (good_number p.next s) (not (is_empty cs)) (number_look (good_number p.next) s p.slots k.slots.numbers th) (rw e))
        (le-leb (length cs) change_limit mine.few))
        mine.formed)
        mine.accepted k.buffer

-- ── advance ──
pub queue_lapsed : (clock n : ℕ) (q : Queue) → queue_ok clock q ≡ true → queue_ok (clock + n) (lapsed_queue (clock + n) q) ≡ true
queue_lapsed clock n idle e = refl
queue_lapsed clock n (leased o t) e =
    by_case (leb (t + lease_ticks) (clock + n)) (λ u. rw u)
    (λ u. rw u
    (let a = and_true (in_time clock t) (owner_ok o) e in
    both (in_time (clock + n) t) (owner_ok o)
    (both (leb t (clock + n)) (ltb (clock + n) (t + lease_ticks))
    (le-leb t (clock + n) (omega (arith, leb-true t clock (and_true (leb t clock) (ltb clock (t + lease_ticks)) a.0).0)))
    (lt-ltb (clock + n) (t + lease_ticks) (leb-false (t + lease_ticks) (clock + n) u)))
    a.1))

pub kept_advance : {p : Plant} (n : ℕ) → ltb last_tick (p.clock + n) ≡ false → Kept p → Kept (advanced n p)
unfolding advanced
kept_advance {p} n e k =
    record {
      store = k.store;
      keys = k.keys;
      cache = cache_drop _ k.cache;
      slots = slots_lapse (p.clock + n) (omega arith) k.slots;
      fresh = numbers_each (is_fresh p.buffer p.rows) (lapse (p.clock + n)) p.slots k.fresh;
      buffer = k.buffer;
      rows = k.rows;
      hands = k.hands;
      queue = queue_lapsed p.clock n p.queue k.queue;
      clock = ltb-false last_tick (p.clock + n) e;
      begun = k.begun;
      next = k.next;
    }
