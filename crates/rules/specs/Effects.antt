-- What each accepted call leaves in the plant.
use Rattle.std.specs.Prelude.{◌+◌, suc, ℕ, Bool, ◌&&◌, ◌||◌, cond, false, not, true, List, [], ◌∷◌, map, length, take, drop, eqb, leb}
use Rattle.std.proofs.Math.Option.{none, some}
use Rattle.rules.specs.Lists.{keep, from, any, pushed, is_empty, override, has}
use Rattle.rules.specs.Limits.{cache_limit, slot_limit, change_limit, buffer_limit, row_limit, sweep_limit, lease_ticks, session_ticks}
use Rattle.rules.specs.Values.{Place, Stock}
use Rattle.rules.specs.Changes.{Update, follow, touches}
use Rattle.rules.specs.Tables.{Lease, free, shared, exclusive, is_held, has_lapsed, documents, Session, with_leases, doomed_session, Slot, session, each, freed, Cached, is_cached, Batch, oldest, batch_of, unbuffer, empty, holds, handed, Queue, idle, leased, owned_by, Plant, removable, with_store, with_keys, with_cache, with_slots, with_buffer, with_rows, with_hand, with_queue, with_clock, with_next}
use Rattle.rules.specs.Reading.{current, seen}
use Rattle.rules.specs.Calls.{Fate, arrives, lost, unreached, Mark, from_cache, cached_now, own_change, Reply, no_word, done, done_before}
use Rattle.rules.specs.Conditions.{no_room}

-- ── set-up ──
unfoldable pub loaded : Update → Plant → Plant
loaded c p = with_store (follow p.store (c ∷ [])) p

unfoldable pub mapped : ℕ → List Place → Plant → Plant
mapped k qs p = with_keys (override p.keys k qs) p

-- ── begin ──
abbrev pub new_session : ℕ → Session
new_session clock = record { begun = clock; doomed = false; lease = λ d. free; changes = [] }

abbrev pub opened : ℕ → ℕ → Slot
opened n clock = record { number = n; session = new_session clock }

-- the doomed session of lowest number: the slots stand in order of number
abbrev pub first_doomed : List Slot → ℕ
first_doomed = from (λ s. s.session.doomed) (λ s. s.number) 0

abbrev pub room : List Slot → List Slot
room l = cond (leb slot_limit (length l)) (freed (first_doomed l) l) l

unfoldable pub begun : Plant → Plant
begun p = with_next (suc p.next) (with_slots (pushed slot_limit (room p.slots) (opened p.next p.clock)) p)

-- ── read ──
abbrev pub document_in : ℕ → List Place → Bool
document_in d = any (λ q. eqb d q.document)

-- a held lease keeps its grant
abbrev pub or_shared : ℕ → Lease → Lease
or_shared clock free = shared clock
or_shared clock (shared t) = shared t
or_shared clock (exclusive t) = exclusive t

abbrev pub with_shared : ℕ → List Place → Session → Session
with_shared clock qs s = with_leases (λ d. cond (document_in d qs) (or_shared clock (s.lease d)) (s.lease d)) s

abbrev pub touched : List Update → List Place → Bool
touched cs = any (touches cs)

abbrev pub mark : ℕ → ℕ → Plant → Mark
mark s k p = cond (touched (session s p.slots).changes (p.keys k)) own_change (cond (is_cached k p.cache) from_cache cached_now)

-- cached keys stand in the order of the reads that cached them (CacheOrder): of sixteen the one cached longest ago gives way
abbrev pub evicted : List Cached → List Cached
evicted l = cond (leb cache_limit (length l)) (drop 1 l) l

-- only a read with mark 1 caches
abbrev pub cache_by : Mark → Cached → List Cached → List Cached
cache_by from_cache c l = l
cache_by cached_now c l = pushed cache_limit (evicted l) c
cache_by own_change c l = l

unfoldable pub cache_after : ℕ → ℕ → Plant → List Cached
cache_after s k p = cache_by (mark s k p) (record { key = k; fields = map (current p) (p.keys k) }) p.cache

unfoldable pub only_at : ℕ → (Session → Session) → ℕ → Session → Session
only_at s f m t = cond (eqb m s) (f t) t

unfoldable pub after_read : ℕ → ℕ → Plant → Plant
after_read s k p = with_cache (cache_after s k p) (with_slots (each (only_at s (with_shared p.clock (p.keys k))) p.slots) p)

-- ── change ──
-- a shared lease becomes exclusive with a fresh grant
abbrev pub to_exclusive : ℕ → Lease → Lease
to_exclusive clock free = exclusive clock
to_exclusive clock (shared t) = exclusive clock
to_exclusive clock (exclusive t) = exclusive t

unfoldable pub with_exclusive : ℕ → ℕ → Session → Session
with_exclusive clock d s = with_leases (λ e. cond (eqb e d) (to_exclusive clock (s.lease e)) (s.lease e)) s

-- the change last among the session's
unfoldable pub with_last : Update → Session → Session
with_last c s = record { begun = s.begun; doomed = s.doomed; lease = s.lease; changes = pushed change_limit s.changes c }

abbrev pub with_change : ℕ → Update → Session → Session
with_change clock c s = with_last c (with_exclusive clock c.at.document s)

-- the session gets the change and an exclusive lease; the others that hold the document are doomed
unfoldable pub grant : ℕ → ℕ → Update → ℕ → Session → Session
grant clock s c m t = cond (eqb m s) (with_change clock c t) (cond (is_held (t.lease c.at.document)) doomed_session t)

unfoldable pub changed : ℕ → Update → Plant → Plant
changed s c p = with_slots (each (grant p.clock s c) p.slots) p

-- ── commit and abandon ──
abbrev pub buffered_after : ℕ → List Update → List Batch → List Batch
buffered_after s cs b = cond (is_empty cs) b (pushed buffer_limit b (record { number = s; changes = cs }))

-- a cached key brought up to date
abbrev pub up_to_date : (ℕ → List Place) → Stock → Cached → Cached
up_to_date keys now c = record { key = c.key; fields = map now (keys c.key) }

unfoldable pub committed : ℕ → Plant → Plant
committed s p =
    with_buffer (buffered_after s (session s p.slots).changes p.buffer)
    (with_cache (map (up_to_date p.keys (seen p (session s p.slots).changes)) p.cache) (with_slots (freed s p.slots) p))

unfoldable pub abandoned : ℕ → Plant → Plant
abandoned s p = with_slots (freed s p.slots) p

-- ── advance ──
unfoldable pub lapses : ℕ → Session → Bool
lapses clock s = not s.doomed && (leb (s.begun + session_ticks) clock || any (λ d. has_lapsed clock (s.lease d)) documents)

unfoldable pub lapse : ℕ → ℕ → Session → Session
lapse clock m t = cond (lapses clock t) doomed_session t

-- a session that lapses loses the documents it holds
unfoldable pub loses : ℕ → Slot → ℕ → Bool
loses clock s d = lapses clock s.session && is_held (s.session.lease d)

unfoldable pub is_lost : ℕ → List Slot → ℕ → Bool
is_lost clock l d = any (λ s. loses clock s d) l

-- is one of the places in a document of the set
unfoldable pub in_documents : (ℕ → Bool) → List Place → Bool
in_documents docs qs = any (λ q. docs q.document) qs

-- a cached key without a place in a lost document stays
unfoldable pub stays : (ℕ → Bool) → (ℕ → List Place) → Cached → Bool
stays gone keys c = not (in_documents gone (keys c.key))

-- a queue lease that lapses is gone
abbrev pub lapsed_queue : ℕ → Queue → Queue
lapsed_queue clock idle = idle
lapsed_queue clock (leased o t) = cond (leb (t + lease_ticks) clock) idle (leased o t)

unfoldable pub advanced : ℕ → Plant → Plant
advanced n p =
    with_clock (p.clock + n)
    (with_cache (keep (stays (is_lost (p.clock + n) p.slots) p.keys) p.cache)
    (with_slots (each (lapse (p.clock + n)) p.slots) (with_queue (lapsed_queue (p.clock + n) p.queue) p)))

-- ── the workers ──
unfoldable pub taken : ℕ → Plant → Plant
taken w p = with_hand w (holds (oldest p.buffer) false) (with_queue (leased (some w) p.clock) p)

-- the store's transaction: the changes and the row, or nothing if the row is there
unfoldable pub carried : ℕ → Plant → Plant
carried n p = cond (has n p.rows) p (with_store (follow p.store (batch_of n p.buffer)) (with_rows (pushed row_limit p.rows n) p))

-- without room for a row a lost apply did nothing
unfoldable pub applied : Fate → ℕ → Plant → Plant
applied arrives w p = with_hand w (holds (handed (p.hands w)) true) (carried (handed (p.hands w)) p)
applied lost w p = cond (no_room w p) p (carried (handed (p.hands w)) p)
applied unreached w p = p

abbrev pub reply_to : Fate → ℕ → Plant → Reply
reply_to arrives w p = cond (has (handed (p.hands w)) p.rows) done_before done
reply_to lost w p = no_word
reply_to unreached w p = no_word

-- a lease in the worker's name ends
abbrev pub ended : ℕ → Queue → Queue
ended w idle = idle
ended w (leased o t) = cond (owned_by w o) idle (leased o t)

-- or runs on in nobody's name
abbrev pub orphaned : ℕ → Queue → Queue
orphaned w idle = idle
orphaned w (leased o t) = cond (owned_by w o) (leased none t) (leased o t)

unfoldable pub deleted : ℕ → Plant → Plant
deleted w p = with_buffer (unbuffer (handed (p.hands w)) p.buffer) (with_hand w empty (with_queue (ended w p.queue) p))

unfoldable pub cut : ℕ → Plant → Plant
cut w p = with_hand w empty (with_queue (orphaned w p.queue) p)

-- what a sweep takes: of the rows that it may remove, in the order in which they were applied, the first sixteen
abbrev pub removed : Plant → List ℕ
removed p = take sweep_limit (keep (removable p) p.rows)

unfoldable pub swept : Plant → Plant
swept p = with_rows (keep (λ n. not (has n (removed p))) p.rows) p
