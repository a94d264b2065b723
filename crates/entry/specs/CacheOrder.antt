-- The key cached longest ago gives way, of the code: what is claimed of calls that are run through the entry. Its proofs are proofs/CacheOrder,
-- from the rules' theorem and the entry's promise alone.
use Rattle.std.specs.Prelude.{◌≡◌, true, List, [], ◌∷◌, length, ℤ, Result}
use Rattle.rules.specs.Lists.{InOrder}
use Rattle.rules.specs.Limits.{cache_limit}
use Rattle.rules.specs.Values.{nat_of}
use Rattle.rules.specs.Tables as M
use Rattle.rules.specs.Calls as C
use Rattle.rules.specs.CacheOrder.{by_reads, GivesWay}
use Rattle.plant.specs.View.{view_plant, kept_plant}
use Rattle.plant.specs.declared.Plant.{Plant}
use Rattle.answers.specs.View.{view_answer}
use Rattle.answers.specs.declared.Answer.{Answer}
use Rattle.answers.specs.declared.Refusal.{Refusal}
use Rattle.calls.specs.declared.Call.TheVariants.{Read, Commit}
use Rattle.entry.specs.Ran.{Ran}
use Rattle.entry.specs.Demand3.{Event, Runs, left, exchanges_of}

-- after every list of calls from the empty plant the cached keys stand in the order of the reads that cached them
abbrev pub InReadOrder : Type 0
InReadOrder =
    (p : Plant) → view_plant p ≡ M.setup → kept_plant p ≡ true → (es : List Event) → Runs p es
    → InOrder (M.keys_of (view_plant (left p es)).cache) (by_reads (exchanges_of es) [])

-- where a read then caches its key and sixteen were cached, the one cached longest ago gives way
abbrev pub OldestGivesWay : Type 0
OldestGivesWay =
    (p : Plant) → view_plant p ≡ M.setup → kept_plant p ≡ true → (es : List Event) → Runs p es
    → (s k : ℤ) (lent : List ℤ) (a : Result Answer Refusal) (words : List ℤ) (q : Plant) → Ran (Read s k) lent (left p es) a words q
    → view_answer a ≡ C.fine (C.mark_number C.cached_now ∷ []) → length (view_plant (left p es)).cache ≡ cache_limit
    → GivesWay (nat_of k) (by_reads (exchanges_of es) []) (M.keys_of (view_plant (left p es)).cache) (M.keys_of (view_plant q).cache)

-- a commit leaves the cached keys in their order
abbrev pub CommitCachesNone : Type 0
CommitCachesNone =
    (s : ℤ) (lent : List ℤ) (p : Plant) (a : Result Answer Refusal) (words : List ℤ) (q : Plant) → Ran (Commit s) lent p a words q
    → M.keys_of (view_plant q).cache ≡ M.keys_of (view_plant p).cache
