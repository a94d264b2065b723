-- What the numbers of an answer mean, told by the tables before the call and after it. p is the plant before, q the plant after.
use Rattle.std.specs.Prelude.{min, ℕ, ◌≡◌, Bool, ◌&&◌, cond, false, not, true, ◌⊎◌, List, [], ◌++◌, ◌∷◌, map, drop, length, leb, pos, ℤ}
use Rattle.rules.specs.Lists.{keep, has, upto}
use Rattle.rules.specs.Limits.{cache_limit, row_limit, sweep_limit, worker_count}
use Rattle.rules.specs.Changes.{Update, follow}
use Rattle.rules.specs.Tables.{free, is_held, is_exclusive, documents, Session, has_slot, session, Cached, is_cached, Batch, numbers_of, is_buffered, handed, Plant}
use Rattle.rules.specs.Calls.{arrives, lost, unreached, fate_number, Mark, from_cache, cached_now, own_change, Reply, no_word, done, done_before}

-- ── begin ──
-- nobody had the number; its session is live, holds and changed nothing, and begins now
pub record Opens (n : ℕ) (p q : Plant) : Type 0 where
  pub no_slot : has_slot n p.slots ≡ false
  pub not_buffered : is_buffered n p.buffer ≡ false
  pub no_row : has n p.rows ≡ false
  pub new : session n q.slots ≡ record { begun = p.clock; doomed = false; lease = λ d. free; changes = [] }

-- ── read ──
-- the key stands last among the cached ones; the others stand as they stood, but that of sixteen the first gave way
pub record CachesLast (k : ℕ) (before after : List Cached) : Type 0 where
  pub new : Cached
  pub key : new.key ≡ k
  pub last : after ≡ cond (leb cache_limit (length before)) (drop 1 before) before ++ (new ∷ [])

-- of a key k and whether an own change touches a place of it, with the cached keys before and after
abbrev pub Marks : Mark → ℕ → Bool → List Cached → List Cached → Type 0
Marks from_cache k touched before after = (touched ≡ false) × (is_cached k before ≡ true) × (after ≡ before)
Marks cached_now k touched before after = (touched ≡ false) × (is_cached k before ≡ false) × CachesLast k before after
Marks own_change k touched before after = (touched ≡ true) × (after ≡ before)

-- ── commit ──
-- the changes of session s stand last in the buffer; without changes it takes no place
abbrev pub Buffers : ℕ → List Update → List Batch → List Batch → Type 0
Buffers s [] before after = after ≡ before
Buffers s (c ∷ cs) before after = after ≡ before ++ (record { number = s; changes = c ∷ cs } ∷ [])

-- ── apply ──
-- the transaction of session n, the oldest buffered one: its row was not there and stands last now, and the store is followed by its changes
pub record Carries (n : ℕ) (p q : Plant) : Type 0 where
  pub no_row : has n p.rows ≡ false
  pub batch : Batch
  pub later : List Batch
  pub oldest : p.buffer ≡ batch ∷ later
  pub number : batch.number ≡ n
  pub store : q.store ≡ follow p.store batch.changes
  pub row : q.rows ≡ p.rows ++ (n ∷ [])

-- the store with its rows is as it was
pub record StoreStays (p q : Plant) : Type 0 where
  pub store : q.store ≡ p.store
  pub rows : q.rows ≡ p.rows

-- done with the reply lost: the transaction, or nothing because the row was there or there was no room for one
abbrev pub Loses : ℕ → Plant → Plant → Type 0
Loses n p q = Carries n p q ⊎ (((has n p.rows ≡ true) ⊎ (length p.rows ≡ row_limit)) × StoreStays p q)

-- of the session n in hand
abbrev pub Replies : Reply → ℤ → ℕ → Plant → Plant → Type 0
Replies done fate n p q = (fate ≡ pos (fate_number arrives)) × Carries n p q
Replies done_before fate n p q = (fate ≡ pos (fate_number arrives)) × (has n p.rows ≡ true) × StoreStays p q
Replies no_word fate n p q = ((fate ≡ pos (fate_number lost)) × Loses n p q) ⊎ ((fate ≡ pos (fate_number unreached)) × StoreStays p q)

-- what the hand remembers: a reply of done or done before has come
abbrev pub has_come : Reply → Bool
has_come done = true
has_come done_before = true
has_come no_word = false

-- ── delete ──
-- 1: session n was buffered, as the oldest, and is gone; 0: it was gone already, and the buffer is as it was
abbrev pub Deletes : Bool → ℕ → List Batch → List Batch → Type 0
Deletes true n before after = (b : Batch) × (b.number ≡ n) × (before ≡ b ∷ after)
Deletes false n before after = (is_buffered n before ≡ false) × (after ≡ before)

-- ── sweep ──
-- a row may go whose session is neither buffered nor in a worker's hand; an empty hand gives 0, which is no session's
abbrev pub may_go : Plant → ℕ → Bool
may_go p m = not (has m (numbers_of p.buffer)) && not (has m (map (λ w. handed (p.hands w)) (upto worker_count)))

-- n is the smaller of 16 and the rows that may go. The rows are a first part and a rest: of the first part just the n that may go are gone,
-- and the rest stays
pub record Sweeps (n : ℕ) (p q : Plant) : Type 0 where
  pub number : n ≡ min sweep_limit (length (keep (may_go p) p.rows))
  pub first : List ℕ
  pub rest : List ℕ
  pub split : p.rows ≡ first ++ rest
  pub gone : length (keep (may_go p) first) ≡ n
  pub left : q.rows ≡ keep (λ m. not (may_go p m)) first ++ rest

-- ── report ──
-- how many documents the session holds shared, how many exclusive, and how many changes it has
abbrev pub Reports : Session → List ℕ → Type 0
Reports s ns =
    ns ≡ length (keep (λ d. is_held (s.lease d) && not (is_exclusive (s.lease d))) documents)
    ∷ length (keep (λ d. is_exclusive (s.lease d)) documents)
    ∷ length s.changes
    ∷ []
