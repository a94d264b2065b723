-- The rules that a plant keeps, part by part, in the form that proofs use; proofs/KeptTest ties them to the test.
use Prim.Native.Nat.{◌<◌, ◌≤◌, suc, ℕ}
use mathlib.Core.Path.{◌≡◌}
use mathlib.Core.Bool.{◌||◌, false, true}
use mathlib.Core.Logic.{◌⊎◌}
use mathlib.Core.List.{List, [], ◌∷◌, map}
use lib.ListN.{length}
use lib.Dec.{ltb}
use Rattle.rules.specs.Lists.{all, pairwise, is_empty, has}
use Rattle.rules.specs.Limits.{document_count, key_count, cache_limit, slot_limit, buffer_limit, row_limit, worker_count, last_tick, last_session}
use Rattle.rules.specs.Values.{Place, in_range, absent, field_ok, Stock}
use Rattle.rules.specs.Changes.{run, accepts, sets_it}
use Rattle.rules.specs.Tables.{is_held, is_exclusive, Slot, session, Cached, Batch, numbers_of, is_oldest, pending, changes_in, Hand, empty, holds, Plant}
use Rattle.rules.specs.Reading.{current}
use Rattle.rules.specs.Kept.{key_ok, is_defined, good_number, session_ok, is_fresh, batch_ok, queue_ok}
use Rattle.rules.proofs.Tests.{Once}

-- ── keys and cached keys ──
-- the cached fields are those that the store and the pending changes show
abbrev pub CachedRight : Stock → (ℕ → List Place) → List Cached → Type 0
CachedRight now keys [] = Unit {0}
CachedRight now keys (c ∷ l) = (c.fields ≡ map now (keys c.key)) × CachedRight now keys l

pub record CacheKept (now : Stock) (keys : ℕ → List Place) (next : ℕ) (l : List Cached) : Type 0 where
  pub few : length l ≤ cache_limit
  pub once : Once (map (λ c. c.key) l)
  pub defined : all (is_defined keys) l ≡ true
  pub fields : CachedRight now keys l
  -- nothing is cached before the first session
  pub after_begin : is_empty l || ltb 1 next ≡ true

-- ── sessions ──
pub record SlotsKept (now : Stock) (clock next : ℕ) (l : List Slot) : Type 0 where
  pub few : length l ≤ slot_limit
  pub order : pairwise (λ a b. ltb a.number b.number) l ≡ true
  pub numbers : all (λ s. good_number next s.number) l ≡ true
  pub ok : all (λ s. session_ok now clock s.session) l ≡ true
  -- an exclusive lease excludes every other lease
  pub apart : (n m d : ℕ) → d < document_count → (n ≡ m → ⊥) → is_exclusive ((session n l).lease d) ≡ true → is_held ((session m l).lease d) ≡ false

-- ── the buffer and the rows ──
abbrev pub NoRows : List ℕ → List Batch → Type 0
NoRows rows [] = Unit {0}
NoRows rows (b ∷ l) = (has b.number rows ≡ false) × NoRows rows l

-- of the buffered sessions only the oldest may have a row
abbrev pub TailFree : List ℕ → List Batch → Type 0
TailFree rows [] = Unit {0}
TailFree rows (b ∷ l) = NoRows rows l

-- where the oldest has its row, the store shows what it set or unset
abbrev pub RowShown : Stock → List ℕ → List Batch → Type 0
RowShown store rows [] = Unit {0}
RowShown store rows (b ∷ l) =
    has b.number rows ≡ true → (q : Place) → in_range q ≡ true → sets_it b.changes q ≡ true → store q ≡ run b.changes q absent

pub record BufferKept (store : Stock) (rows : List ℕ) (next : ℕ) (l : List Batch) : Type 0 where
  pub few : length l ≤ buffer_limit
  pub once : Once (numbers_of l)
  pub ok : all (batch_ok next) l ≡ true
  pub tail : TailFree rows l
  pub pending_ok : accepts store (changes_in (pending rows l)) ≡ true
  pub shown : RowShown store rows l

pub record RowsKept (next : ℕ) (rows : List ℕ) : Type 0 where
  pub few : length rows ≤ row_limit
  pub once : Once rows
  pub numbers : all (good_number next) rows ≡ true

-- ── the workers ──
-- a session in a hand has a row, or is the oldest buffered one and no reply has come
abbrev pub HandOk : List ℕ → List Batch → Hand → Type 0
HandOk rows buffer empty = Unit {0}
HandOk rows buffer (holds m r) = (has m rows ≡ true) ⊎ ((r ≡ false) × (is_oldest m buffer ≡ true))

-- ── the plant ──
pub record Kept (p : Plant) : Type 0 where
  pub store : (q : Place) → in_range q ≡ true → field_ok (p.store q) ≡ true
  pub keys : (k : ℕ) → k < key_count → key_ok (p.keys k) ≡ true
  pub cache : CacheKept (current p) p.keys p.next p.cache
  pub slots : SlotsKept (current p) p.clock p.next p.slots
  -- a session with a slot is neither buffered nor applied
  pub fresh : all (λ s. is_fresh p.buffer p.rows s.number) p.slots ≡ true
  pub buffer : BufferKept p.store p.rows p.next p.buffer
  pub rows : RowsKept p.next p.rows
  pub hands : (w : ℕ) → w < worker_count → HandOk p.rows p.buffer (p.hands w)
  pub queue : queue_ok p.clock p.queue ≡ true
  pub clock : p.clock ≤ last_tick
  pub begun : 1 ≤ p.next
  pub next : p.next ≤ suc last_session
