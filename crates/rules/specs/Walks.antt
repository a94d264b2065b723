-- Look from the newest booking back: where the walk stops, how many changes it looks at, and that it decides what is known and seen.
use Rattle.std.specs.Prelude.{◌-◌, suc, ℕ, ◌≡◌, Bool, ◌||◌, false, not, true, ◌⊎◌, List, [], ◌++◌, ◌∷◌, reverse, drop, length, ℤ}
use Rattle.rules.specs.Lists.{any, all}
use Rattle.rules.specs.Refusals.{store_away}
use Rattle.rules.specs.Values.{nat_of, Place, Field}
use Rattle.rules.specs.Changes.{set, unset, kind_of, Update, run, is_set, sets_it, place_of}
use Rattle.rules.specs.Tables.{Cached, Batch, changes_in, Plant}
use Rattle.rules.specs.Reading.{shows_it, cached_field, known_away, seen_away, Walk, up_to_now, walk_back}
use Rattle.rules.specs.Calls.{Read, Change, refused, fine}
use Rattle.rules.specs.Conditions.{own}
use Rattle.rules.specs.Step.{step}

-- ── where it stops, and how many changes it looks at ──
-- a change sets or unsets a place, by equality and not by the definition's test
abbrev pub Fixes : Place → Update → Type 0
Fixes q c = (c.at ≡ q) × ((c.kind ≡ set) ⊎ (c.kind ≡ unset))

abbrev pub NoneFixes : Place → List Update → Type 0
NoneFixes q [] = Unit {0}
NoneFixes q (c ∷ cs) = (Fixes q c → ⊥) × NoneFixes q cs

-- the newest set or unset among changes that stand oldest first
pub record Newest (q : Place) (cs : List Update) : Type 0 where
  pub older : List Update
  pub change : Update
  pub newer : List Update
  pub split : cs ≡ older ++ (change ∷ newer)
  pub fixes : Fixes q change
  pub none_newer : NoneFixes q newer

-- it looked at that set or unset and all newer ones, or at every change where there is none; one of the two is so
pub record Walked (q : Place) (cs : List Update) (w : Walk) : Type 0 where
  pub stops : (n : Newest q cs) → w ≡ record { found = true; looked = suc (length n.newer) }
  pub passes : NoneFixes q cs → w ≡ record { found = false; looked = length cs }
  pub ends : Newest q cs ⊎ NoneFixes q cs

-- claimed of a walk as a function, so that runs can show which walks are not as claimed
abbrev pub WalksAs : (List Batch → List Update → Place → Walk) → Type 0
WalksAs w = (buffer : List Batch) (own : List Update) (q : Place) → Walked q (changes_in buffer ++ own) (w buffer own q)

abbrev pub WalksBack : Type 0
WalksBack = WalksAs walk_back

-- ── its order: the own changes, newest first, then the buffered sessions, newest first, and in each the newest change first ──
abbrev pub sessions_back : List Batch → List Update
sessions_back [] = []
sessions_back (b ∷ l) = sessions_back l ++ reverse b.changes

abbrev pub StandAs : (List Batch → List Update → List Update) → Type 0
StandAs l = (buffer : List Batch) (own : List Update) → reverse (l buffer own) ≡ reverse own ++ sessions_back buffer

abbrev pub NewestFirst : Type 0
NewestFirst = StandAs up_to_now

-- ── the same answer ──
-- it finds one exactly where a buffered or own change sets or unsets the place
abbrev pub FindsAs : (List Batch → List Update → Place → Walk) → Type 0
FindsAs w = (buffer : List Batch) (own : List Update) (q : Place) → (w buffer own q).found ≡ sets_it (changes_in buffer) q || sets_it own q

abbrev pub Finds : Type 0
Finds = FindsAs walk_back

-- without the store a place is known by a cached key or by what a walk found
abbrev pub found_away : (ℕ → List Place) → List Cached → Place → Walk → Bool
found_away keys cache q w = any (shows_it keys q) cache || w.found

-- where one was found, the field f is worked out from that set or unset on, whatever stood before it; else from the cached key's field by the own changes
pub record SeenBy (keys : ℕ → List Place) (cache : List Cached) (buffer : List Batch) (own : List Update) (q : Place) (w : Walk) (f : Field) : Type 0 where
  pub since : w.found ≡ true → (before : Field) → f ≡ run (drop (length (changes_in buffer ++ own) - w.looked) (changes_in buffer ++ own)) q before
  pub cached : w.found ≡ false → f ≡ run own q (cached_field keys q cache)

-- worked out without the store: from the keys, the cached keys, the buffer and the own changes, for each place
abbrev pub Away : Type 0 → Type 0
Away A = (ℕ → List Place) → List Cached → List Batch → List Update → Place → A

abbrev pub KnownAs : Away Bool → Type 0
KnownAs k =
    (keys : ℕ → List Place) (cache : List Cached) (buffer : List Batch) (own : List Update) (q : Place)
    → k keys cache buffer own q ≡ found_away keys cache q (walk_back buffer own q)

abbrev pub KnownByWalk : Type 0
KnownByWalk = KnownAs known_away

abbrev pub SeenAs : Away Field → Type 0
SeenAs f =
    (keys : ℕ → List Place) (cache : List Cached) (buffer : List Batch) (own : List Update) (q : Place)
    → SeenBy keys cache buffer own q (walk_back buffer own q) (f keys cache buffer own q)

abbrev pub SeenByWalk : Type 0
SeenByWalk = SeenAs seen_away

-- ── of the calls that ask, while the store is away ──
-- the walk of a session: over the whole buffer, whatever rows stand
abbrev pub walk_of : Plant → ℤ → Place → Walk
walk_of p s = walk_back p.buffer (own s p)

abbrev pub found_by : Plant → ℤ → Place → Bool
found_by p s q = found_away p.keys p.cache q (walk_of p s q)

-- a call that gets 20 asks for a place that is not found; an accepted one asks for none such
pub record Decides (p : Plant) (found : ℤ → Place → Bool) : Type 0 where
  pub read_unknown : (s k : ℤ) (lent : List ℤ) → (step (Read s k) lent p).answer ≡ refused store_away
      → any (λ q. not (found s q)) (p.keys (nat_of k)) ≡ true
  pub read_known : (s k : ℤ) (lent : List ℤ) (ns : List ℕ) → (step (Read s k) lent p).answer ≡ fine ns → all (found s) (p.keys (nat_of k)) ≡ true
  pub change_unknown : (s d f k v : ℤ) (lent : List ℤ) → (step (Change s d f k v) lent p).answer ≡ refused store_away
      → (is_set (kind_of (nat_of k)) ≡ false) × (found s (place_of d f) ≡ false)
  pub change_known : (s d f k v : ℤ) (lent : List ℤ) (ns : List ℕ) → (step (Change s d f k v) lent p).answer ≡ fine ns
      → is_set (kind_of (nat_of k)) ≡ false → found s (place_of d f) ≡ true

-- on any plant, also on one that no calls leave
abbrev pub DecidesAs : (Plant → ℤ → Place → Bool) → Type 0
DecidesAs found = (p : Plant) → p.near ≡ false → Decides p (found p)

abbrev pub WalkDecides : Type 0
WalkDecides = DecidesAs found_by
