-- The plant: its tables, each with what is looked up in it.
use Rattle.std.specs.Prelude.{◌+◌, ℕ, Bool, ◌&&◌, false, not, true, List, [], ◌++◌, ◌∷◌, map, eqb, leb, ℤ}
use Rattle.std.proofs.Math.Option.{Option, none, some}
use Rattle.rules.specs.Lists.{keep, from, any, override, has, upto}
use Rattle.rules.specs.Limits.{document_count, worker_count, lease_ticks, first_session}
use Rattle.rules.specs.Values.{nat_of, is_natural, Place, Field, absent, Stock}
use Rattle.rules.specs.Changes.{Update}

-- ── leases ──
-- a document's lease in one session, with the tick of its grant
pub data Lease : Type 0 where
  free : Lease
  shared exclusive : ℕ → Lease

abbrev pub is_held : Lease → Bool
is_held free = false
is_held (shared t) = true
is_held (exclusive t) = true

abbrev pub is_exclusive : Lease → Bool
is_exclusive free = false
is_exclusive (shared t) = false
is_exclusive (exclusive t) = true

-- a lease granted at t lapses at t + 300
abbrev pub has_lapsed : ℕ → Lease → Bool
has_lapsed clock free = false
has_lapsed clock (shared t) = leb (t + lease_ticks) clock
has_lapsed clock (exclusive t) = leb (t + lease_ticks) clock

unfoldable pub documents : List ℕ
documents = upto document_count

-- ── sessions ──
pub record Session : Type 0 where
  pub begun : ℕ
  pub doomed : Bool
  pub lease : ℕ → Lease
  pub changes : List Update

abbrev pub with_leases : (ℕ → Lease) → Session → Session
with_leases lease s = record { begun = s.begun; doomed = s.doomed; lease = lease; changes = s.changes }

-- a doomed session has lost its leases and changes; a number without a slot looks up the same
abbrev pub doomed_session : Session
doomed_session = record { begun = 0; doomed = true; lease = λ d. free; changes = [] }

pub record Slot : Type 0 where
  pub number : ℕ
  pub session : Session

abbrev pub has_slot : ℕ → List Slot → Bool
has_slot n = any (λ s. eqb n s.number)

-- has a session number, as an argument, a slot
abbrev pub is_slot : ℤ → List Slot → Bool
is_slot s l = is_natural s && has_slot (nat_of s) l

abbrev pub session : ℕ → List Slot → Session
session n = from (λ s. eqb n s.number) (λ s. s.session) doomed_session

-- every session changed, by a function of its number
abbrev pub remade : (ℕ → Session → Session) → Slot → Slot
remade f s = record { number = s.number; session = f s.number s.session }

abbrev pub each : (ℕ → Session → Session) → List Slot → List Slot
each f = map (remade f)

abbrev pub freed : ℕ → List Slot → List Slot
freed n = keep (λ s. not (eqb n s.number))

-- does another session hold a document exclusively
abbrev pub others_exclusive : ℕ → ℕ → List Slot → Bool
others_exclusive n d = any (λ s. not (eqb n s.number) && is_exclusive (s.session.lease d))

-- ── cached keys ──
pub record Cached : Type 0 where
  pub key : ℕ
  pub fields : List Field

abbrev pub keys_of : List Cached → List ℕ
keys_of = map (λ c. c.key)

abbrev pub is_cached : ℕ → List Cached → Bool
is_cached k = any (λ c. eqb k c.key)

-- ── the buffer, oldest first ──
pub record Batch : Type 0 where
  pub number : ℕ
  pub changes : List Update

abbrev pub numbers_of : List Batch → List ℕ
numbers_of = map (λ b. b.number)

abbrev pub is_buffered : ℕ → List Batch → Bool
is_buffered n = any (λ b. eqb n b.number)

abbrev pub oldest : List Batch → ℕ
oldest [] = 0
oldest (b ∷ l) = b.number

abbrev pub is_oldest : ℕ → List Batch → Bool
is_oldest n [] = false
is_oldest n (b ∷ l) = eqb n b.number

abbrev pub batch_of : ℕ → List Batch → List Update
batch_of n = from (λ b. eqb n b.number) (λ b. b.changes) []

abbrev pub unbuffer : ℕ → List Batch → List Batch
unbuffer n = keep (λ b. not (eqb n b.number))

-- the buffered sessions without a row
abbrev pub pending : List ℕ → List Batch → List Batch
pending rows = keep (λ b. not (has b.number rows))

-- their changes in commit order
abbrev pub changes_in : List Batch → List Update
changes_in [] = []
changes_in (b ∷ l) = b.changes ++ changes_in l

-- ── workers ──
-- a hand holds a session's number, and whether a reply of done or done before has come
pub data Hand : Type 0 where
  empty : Hand
  holds : ℕ → Bool → Hand

abbrev pub full : Hand → Bool
full empty = false
full (holds m r) = true

abbrev pub replied : Hand → Bool
replied empty = false
replied (holds m r) = r

abbrev pub handed : Hand → ℕ
handed empty = 0
handed (holds m r) = m

abbrev pub in_hand : ℕ → Hand → Bool
in_hand n empty = false
in_hand n (holds m r) = eqb n m

abbrev pub any_hand : (ℕ → Hand) → ℕ → Bool
any_hand hands n = any (λ w. in_hand n (hands w)) (upto worker_count)

-- the queue lease: whose (none: nobody's name) and since when
pub data Queue : Type 0 where
  idle : Queue
  leased : Option ℕ → ℕ → Queue

abbrev pub is_leased : Queue → Bool
is_leased idle = false
is_leased (leased w t) = true

abbrev pub owned_by : ℕ → Option ℕ → Bool
owned_by w none = false
owned_by w (some v) = eqb w v

-- ── the plant ──
pub record Plant : Type 0 where
  pub store : Stock
  pub keys : ℕ → List Place
  pub cache : List Cached
  pub slots : List Slot
  pub buffer : List Batch
  pub rows : List ℕ
  pub hands : ℕ → Hand
  pub queue : Queue
  pub clock : ℕ
  pub near : Bool
  pub next : ℕ

unfoldable pub setup : Plant
setup =
    record {
      store = λ p. absent;
      keys = λ k. [];
      cache = [];
      slots = [];
      buffer = [];
      rows = [];
      hands = λ w. empty;
      queue = idle;
      clock = 0;
      near = true;
      next = first_session;
    }

-- a row whose session is neither buffered nor in a hand is needed no more, and a sweep may remove it
abbrev pub unneeded : List Batch → (ℕ → Hand) → ℕ → Bool
unneeded buffer hands n = not (is_buffered n buffer) && not (any_hand hands n)

abbrev pub removable : Plant → ℕ → Bool
removable p = unneeded p.buffer p.hands

-- ── the plant with one table replaced ──
abbrev pub with_store : Stock → Plant → Plant
with_store s p = record { store = s; keys = p.keys; cache = p.cache; slots = p.slots; buffer = p.buffer; rows = p.rows; hands = p.hands; queue = p.queue; clock = p.clock; near = p.near; next = p.next }

abbrev pub with_keys : (ℕ → List Place) → Plant → Plant
with_keys k p = record { store = p.store; keys = k; cache = p.cache; slots = p.slots; buffer = p.buffer; rows = p.rows; hands = p.hands; queue = p.queue; clock = p.clock; near = p.near; next = p.next }

abbrev pub with_cache : List Cached → Plant → Plant
with_cache c p = record { store = p.store; keys = p.keys; cache = c; slots = p.slots; buffer = p.buffer; rows = p.rows; hands = p.hands; queue = p.queue; clock = p.clock; near = p.near; next = p.next }

abbrev pub with_slots : List Slot → Plant → Plant
with_slots s p = record { store = p.store; keys = p.keys; cache = p.cache; slots = s; buffer = p.buffer; rows = p.rows; hands = p.hands; queue = p.queue; clock = p.clock; near = p.near; next = p.next }

abbrev pub with_buffer : List Batch → Plant → Plant
with_buffer b p = record { store = p.store; keys = p.keys; cache = p.cache; slots = p.slots; buffer = b; rows = p.rows; hands = p.hands; queue = p.queue; clock = p.clock; near = p.near; next = p.next }

abbrev pub with_rows : List ℕ → Plant → Plant
with_rows r p = record { store = p.store; keys = p.keys; cache = p.cache; slots = p.slots; buffer = p.buffer; rows = r; hands = p.hands; queue = p.queue; clock = p.clock; near = p.near; next = p.next }

abbrev pub with_hands : (ℕ → Hand) → Plant → Plant
with_hands h p = record { store = p.store; keys = p.keys; cache = p.cache; slots = p.slots; buffer = p.buffer; rows = p.rows; hands = h; queue = p.queue; clock = p.clock; near = p.near; next = p.next }

abbrev pub with_hand : ℕ → Hand → Plant → Plant
with_hand w h p = with_hands (override p.hands w h) p

abbrev pub with_queue : Queue → Plant → Plant
with_queue q p = record { store = p.store; keys = p.keys; cache = p.cache; slots = p.slots; buffer = p.buffer; rows = p.rows; hands = p.hands; queue = q; clock = p.clock; near = p.near; next = p.next }

abbrev pub with_clock : ℕ → Plant → Plant
with_clock c p = record { store = p.store; keys = p.keys; cache = p.cache; slots = p.slots; buffer = p.buffer; rows = p.rows; hands = p.hands; queue = p.queue; clock = c; near = p.near; next = p.next }

abbrev pub with_near : Bool → Plant → Plant
with_near n p = record { store = p.store; keys = p.keys; cache = p.cache; slots = p.slots; buffer = p.buffer; rows = p.rows; hands = p.hands; queue = p.queue; clock = p.clock; near = n; next = p.next }

abbrev pub with_next : ℕ → Plant → Plant
with_next n p = record { store = p.store; keys = p.keys; cache = p.cache; slots = p.slots; buffer = p.buffer; rows = p.rows; hands = p.hands; queue = p.queue; clock = p.clock; near = p.near; next = n }
