-- The key cached longest ago gives way: what is claimed of the order of the cached keys. Answers.CachesLast says what one read leaves on any kept plant.
use Rattle.std.specs.Prelude.{◌+◌, ℕ, ◌≡◌, cond, false, true, List, [], ◌++◌, ◌∷◌, drop, length, eqb, ℤ}
use Rattle.rules.specs.Lists.{keep, any, has, without, head_or_zero, InOrder}
use Rattle.rules.specs.Limits.{cache_limit}
use Rattle.rules.specs.Values.{nat_of}
use Rattle.rules.specs.Tables.{Slot, keys_of, Plant}
use Rattle.rules.specs.Calls.{Call, Load, Map, Begin, Read, Change, Commit, Abandon, Advance, Take, Apply, Delete, Cut, Sweep, Store, Report, cached_now, mark_number, Answer, refused, fine}
use Rattle.rules.specs.Effects.{lapses}
use Rattle.rules.specs.Step.{step}
use Rattle.rules.specs.Kept.{kept}
use Rattle.rules.specs.History.{Turn, initial, left_by, Exchange, exchanges}

-- ── the order of the reads that cached them ──
-- a read with mark 1 puts its key last, also one that was cached before
abbrev pub order_after : Call → List ℕ → List ℕ → List ℕ
order_after (Load d f k v) ns l = l
order_after (Map k n m) ns l = l
order_after Begin ns l = l
order_after (Read s k) ns l = cond (eqb (head_or_zero ns) (mark_number cached_now)) (without (nat_of k) l ++ (nat_of k ∷ [])) l
order_after (Change s d f k v) ns l = l
order_after (Commit s) ns l = l
order_after (Abandon s) ns l = l
order_after (Advance n) ns l = l
order_after (Take w) ns l = l
order_after (Apply w fate) ns l = l
order_after (Delete w) ns l = l
order_after (Cut w) ns l = l
order_after Sweep ns l = l
order_after (Store n) ns l = l
order_after (Report s) ns l = l

-- a refused call puts none
abbrev pub order_after_answer : Call → Answer → List ℕ → List ℕ
order_after_answer c (refused r) l = l
order_after_answer c (fine ns) l = order_after c ns l

-- from calls and answers alone, after the keys l
abbrev pub by_reads : List Exchange → List ℕ → List ℕ
by_reads [] l = l
by_reads (e ∷ es) l = by_reads es (order_after_answer e.call e.answer l)

-- ── after every list of calls ──
abbrev pub read_order : List Turn → List ℕ
read_order ts = by_reads (exchanges ts initial.plant) []

-- the cached keys stand in that order, whatever the clock did and whatever commits brought up to date
abbrev pub InReadOrder : Type 0
InReadOrder = (ts : List Turn) → InOrder (keys_of (left_by ts).cache) (read_order ts)

-- of the keys before, the first in the order goes; the others stand in the order, and then the key k
abbrev pub GivesWay : ℕ → List ℕ → List ℕ → List ℕ → Type 0
GivesWay k order before after = after ≡ drop 1 (keep (λ n. has n before) order) ++ (k ∷ [])

-- where a read caches its key and sixteen were cached, the one cached longest ago gives way
abbrev pub OldestGivesWay : Type 0
OldestGivesWay =
    (ts : List Turn) (s k : ℤ) (lent : List ℤ)
    → (step (Read s k) lent (left_by ts)).answer ≡ fine (mark_number cached_now ∷ [])
    → length (left_by ts).cache ≡ cache_limit
    → GivesWay (nat_of k) (read_order ts) (keys_of (left_by ts).cache) (keys_of (step (Read s k) lent (left_by ts)).plant.cache)

-- ── of one call ──
-- bringing keys up to date is not caching them: a commit leaves them in their order, on any plant
abbrev pub CommitCachesNone : Type 0
CommitCachesNone =
    (s : ℤ) (lent : List ℤ) (p : Plant) → keys_of (step (Commit s) lent p).plant.cache ≡ keys_of p.cache

-- whatever the clock: where no session lapses, the cached keys stay as they are; where one does, those left stand in their order
pub record ClockLeavesOrder : Type 0 where
  pub none_lapses : (n : ℤ) (lent : List ℤ) (p : Plant) → any (λ (s : Slot). lapses (p.clock + nat_of n) s.session) p.slots ≡ false
      → (step (Advance n) lent p).plant.cache ≡ p.cache
  pub ordered : (n : ℤ) (lent : List ℤ) (p : Plant) → kept p ≡ true
      → InOrder (keys_of (step (Advance n) lent p).plant.cache) (keys_of p.cache)
