-- Runs worked out from the papers: where the walk from the newest change back stops, how many changes it looks at, and which calls are refused 20 by it.
use Rattle.std.specs.Prelude.{◌+◌, ℕ, ◌≡◌, refl, ◌||◌, false, true, List, [], ◌++◌, ◌∷◌, map, reverse, replicate, pos}
use Rattle.rules.specs.Lists.{any}
use Rattle.rules.specs.Values.{nat_of, Place, same_place, Field, absent, number, list}
use Rattle.rules.specs.Changes.{set, unset, inc, kind_number, kinds, Update, change, run, sets}
use Rattle.rules.specs.Tables.{Cached, Batch, pending, changes_in, setup}
use Rattle.rules.specs.Reading.{shows_it, cached_field, seen_away, Walk, walk, walk_back}
use Rattle.rules.specs.Calls.{arrives, Begin}
use Rattle.rules.specs.Conditions.{own}
use Rattle.rules.specs.Effects.{applied, deleted}
use Rattle.rules.specs.Walks.{Fixes, Newest, Walked, WalksAs, StandAs, FindsAs, found_away, SeenBy, KnownAs, SeenAs, walk_of, found_by, Decides, DecidesAs}
use Rattle.rules.specs.Scenario.{Line, ◌gets◌, yes, says, no, after, Plays, pair, map_two, read, edit, commit, takes, apply, delete, near, at, origin, elsewhere, map_origin, map_one, edit_origin, setting, sets_by}

-- it stopped at the n-th change it looked at; it looked at n and found none
abbrev pub stopped : ℕ → Walk
stopped n = record { found = true; looked = n }

abbrev pub passed : ℕ → Walk
passed n = record { found = false; looked = n }

-- at the origin, of own changes alone
abbrev pub of_own : List Update → Walk
of_own cs = walk_back [] cs origin

abbrev pub set_it : Update
set_it = at origin set (pos 5)

abbrev pub inc_it : Update
inc_it = at origin inc (pos 1)

abbrev pub set_other : Update
set_other = at elsewhere set (pos 7)

-- the changes of a buffered session
abbrev pub held : List Update → Batch
held cs = record { number = 1; changes = cs }

-- 31 sessions of 8 changes that set another field
abbrev pub others : List Batch
others = replicate 31 (held (replicate 8 set_other))

-- 8 changes of which the first, or the last, sets the origin
abbrev pub set_first : List Update
set_first = set_it ∷ replicate 7 inc_it

abbrev pub set_last : List Update
set_last = replicate 7 inc_it ++ (set_it ∷ [])

-- session 1 sets the origin, is applied and still buffered; session 2 changes field 1; session 3 has two changes of its own
abbrev pub three_deep : List Line
three_deep =
    map_origin gets yes
    ∷ map_one 1 (pair 0 1) gets yes
    ∷ setting 1 1
    ++ (takes 0 gets says 1
    ∷ apply 0 arrives gets says 1
    ∷ Begin gets says 2
    ∷ edit 2 0 1 inc (pos 1) gets says 1
    ∷ commit 2 gets says 2
    ∷ Begin gets says 3
    ∷ edit_origin 3 inc (pos 1) gets says 1
    ∷ edit 3 1 0 set (pos 7) gets says 2
    ∷ near false gets yes
    ∷ [])

abbrev pub walked3 : Place → Walk
walked3 = walk_of (after three_deep setup) (pos 3)

-- ── plants on which only reads, or only changes, come as far as 20; of key 0 both places are set, of key 1 one ──
abbrev pub other : Place
other = record { document = 1; field = 0 }

-- with eight changes every further one is refused by 5
abbrev pub eight_set : List Line
eight_set =
    map_two 0 (pair 0 0) (pair 0 1) gets yes
    ∷ map_two 1 (pair 0 0) (pair 1 0) gets yes
    ∷ Begin gets says 1
    ∷ near false gets yes
    ∷ sets_by 1 7 0
    ++ (edit 1 0 1 set (pos 7) gets says 8 ∷ [])

-- without a key every read is refused by 9
abbrev pub keyless : List Line
keyless = Begin gets says 1 ∷ near false gets yes ∷ edit_origin 1 set (pos 5) gets says 1 ∷ []

-- the origin is known by a cached key alone
abbrev pub cached_origin : List Line
cached_origin = map_origin gets yes ∷ Begin gets says 1 ∷ read 1 0 gets says 1 ∷ near false gets yes ∷ []

-- each key shows the origin
abbrev pub shows_origin : ℕ → List Place
shows_origin k = origin ∷ []

abbrev pub cached9 : List Cached
cached9 = record { key = 0; fields = number (pos 9) ∷ [] } ∷ []

pub record WalkRuns : Type 0 where
  pub nothing : of_own [] ≡ passed 0
  -- of the six, set and unset stop it
  pub six_kinds : map (λ k. of_own (at origin k (pos 0) ∷ [])) kinds ≡ stopped 1 ∷ stopped 1 ∷ passed 1 ∷ passed 1 ∷ passed 1 ∷ passed 1 ∷ []
  -- changes of every field count: a set of another field, of that field in another document, and incs are passed
  pub counts : of_own (set_other ∷ at (record { document = 1; field = 0 }) unset (pos 0) ∷ inc_it ∷ []) ≡ passed 3
  pub behind : of_own (inc_it ∷ set_it ∷ inc_it ∷ set_other ∷ []) ≡ stopped 3
  -- of two the newer one stops it
  pub newer : (of_own (set_it ∷ inc_it ∷ at origin unset (pos 0) ∷ inc_it ∷ []) ≡ stopped 2) × (of_own (at origin unset (pos 0) ∷ set_it ∷ []) ≡ stopped 1)
  -- own changes first, then sessions, newest first, and in each the newest change first
  pub own_first : walk_back (held (set_it ∷ []) ∷ []) (set_it ∷ set_other ∷ []) origin ≡ stopped 2
  pub sessions_next : (walk_back (held (set_it ∷ set_other ∷ []) ∷ held (inc_it ∷ set_other ∷ []) ∷ []) (inc_it ∷ []) origin ≡ stopped 5)
      × (walk_back (held (set_it ∷ []) ∷ held (set_it ∷ inc_it ∷ []) ∷ held (inc_it ∷ []) ∷ []) [] origin ≡ stopped 3)
  -- 32 sessions of 8 changes, and 8 own ones: set by the oldest change, by the newest buffered, by the oldest and the newest own, by none
  pub by_oldest : (walk_back (held set_first ∷ others) [] origin ≡ stopped 256) × (walk_back (held set_first ∷ others) (replicate 8 inc_it) origin ≡ stopped 264)
  pub by_newest : (walk_back (others ++ (held set_last ∷ [])) [] origin ≡ stopped 1) × (walk_back (others ++ (held set_last ∷ [])) (replicate 8 inc_it) origin ≡ stopped 9)
  pub by_own : (walk_back (held set_first ∷ others) set_first origin ≡ stopped 8) × (walk_back (held set_first ∷ others) set_last origin ≡ stopped 1)
  pub by_none : walk_back (held (replicate 8 inc_it) ∷ others) (replicate 8 inc_it) origin ≡ passed 264
  -- of a plant: a session with its row is not passed over; the own set; none among four
  pub walks : Plays setup three_deep × (walked3 origin ≡ stopped 4) × (walked3 (record { document = 1; field = 0 }) ≡ stopped 1) × (walked3 elsewhere ≡ passed 4)
  -- so the origin is known and field 1 is not, until the session unsets it; then a read shows it too
  pub asked : Plays (after three_deep setup)
      (edit_origin 3 inc (pos 1) gets says 3
      ∷ edit 3 0 1 inc (pos 1) gets no 20
      ∷ read 3 1 gets no 20
      ∷ read 3 0 gets says 2
      ∷ edit 3 0 1 unset (pos 0) gets says 4
      ∷ edit 3 0 1 inc (pos 1) gets says 5
      ∷ read 3 1 gets says 2
      ∷ [])
  -- once session 1 is deleted nothing sets the origin, and incs of it do not make it known; a cached key does
  pub deleted_since : Plays (after three_deep setup)
      (commit 3 gets says 3
      ∷ near true gets yes
      ∷ delete 0 gets says 1
      ∷ Begin gets says 4
      ∷ near false gets yes
      ∷ edit_origin 4 inc (pos 1) gets no 20
      ∷ near true gets yes
      ∷ read 4 0 gets says 1
      ∷ near false gets yes
      ∷ edit_origin 4 inc (pos 1) gets says 1
      ∷ [])
  -- an inc, or a set elsewhere, does not fix the place; a walk that stops too soon, too late, at an inc or not at all is not as claimed
  pub stray_inc : Fixes origin inc_it → ⊥
  pub stray_place : Fixes origin set_other → ⊥
  pub stray_soon : Walked origin (set_it ∷ inc_it ∷ []) (stopped 1) → ⊥
  pub stray_late : Walked origin (set_it ∷ set_it ∷ []) (stopped 2) → ⊥
  pub stray_stop : Walked origin (inc_it ∷ []) (stopped 1) → ⊥
  pub stray_miss : Walked origin (set_it ∷ inc_it ∷ []) (passed 2) → ⊥
  pub stray_few : Walked origin (set_other ∷ inc_it ∷ []) (passed 1) → ⊥
  -- a walk over the own changes alone, over the buffered ones alone, with the own ones oldest, or from the oldest on is not as claimed
  pub stray_own : WalksAs (λ buffer own. walk_back [] own) → ⊥
  pub stray_buffered : WalksAs (λ buffer own. walk_back buffer []) → ⊥
  pub stray_own_oldest : WalksAs (λ buffer own q. walk q (reverse (own ++ changes_in buffer))) → ⊥
  pub stray_oldest : WalksAs (λ buffer own q. walk q (changes_in buffer ++ own)) → ⊥
  -- a list without the own changes, with them oldest, or with the sessions newest first is not in the order claimed
  pub stray_no_own : StandAs (λ buffer own. changes_in buffer) → ⊥
  pub stray_own_last : StandAs (λ buffer own. own ++ changes_in buffer) → ⊥
  pub stray_sessions : StandAs (λ buffer own. changes_in (reverse buffer) ++ own) → ⊥
  -- a walk that finds one always, never, or among the own or the buffered changes alone does not find as claimed
  pub stray_always : FindsAs (λ buffer own q. stopped 1) → ⊥
  pub stray_never : FindsAs (λ buffer own q. passed 0) → ⊥
  pub stray_finds_own : FindsAs (λ buffer own. walk_back [] own) → ⊥
  pub stray_finds_buffered : FindsAs (λ buffer own. walk_back buffer []) → ⊥
  -- known by the walk, by a cached key, by neither, and not by a cached key that shows another place
  pub known_by : (found_away shows_origin [] origin (stopped 1) ≡ true) × (found_away shows_origin cached9 origin (passed 1) ≡ true)
      × (found_away shows_origin [] origin (passed 1) ≡ false) × (found_away shows_origin cached9 elsewhere (passed 1) ≡ false)
  -- so neither the cached keys, nor the walk, nor the own changes alone tell what is known; and not all is known
  pub stray_known_cached : KnownAs (λ keys cache buffer own q. any (shows_it keys q) cache) → ⊥
  pub stray_known_walked : KnownAs (λ keys cache buffer own q. (walk_back buffer own q).found) → ⊥
  pub stray_known_own : KnownAs (λ keys cache buffer own q. any (shows_it keys q) cache || (walk_back [] own q).found) → ⊥
  pub stray_known_all : KnownAs (λ keys cache buffer own q. true) → ⊥
  -- a buffered set to 5 and an own inc by 1 show 6: not found where the walk stopped too soon or found none, nor is it 7; an inc of a cached 9 is not 9
  pub stray_too_soon : SeenBy shows_origin [] (held (set_it ∷ []) ∷ []) (inc_it ∷ []) origin (stopped 1) (number (pos 6)) → ⊥
  pub stray_unfound : SeenBy shows_origin [] (held (set_it ∷ []) ∷ []) (inc_it ∷ []) origin (passed 2) (number (pos 6)) → ⊥
  pub stray_seven : SeenBy shows_origin [] (held (set_it ∷ []) ∷ []) (inc_it ∷ []) origin (stopped 2) (number (pos 7)) → ⊥
  pub stray_nine : SeenBy shows_origin cached9 [] (inc_it ∷ []) origin (passed 1) (number (pos 9)) → ⊥
  -- without the store: a buffered set and an own inc, a cached field with a buffered and an own inc, an own unset and inc, a cached field that is set since
  pub sees : (seen_away shows_origin [] (held (set_it ∷ []) ∷ []) (inc_it ∷ []) origin ≡ number (pos 6))
      × (seen_away shows_origin cached9 (held (inc_it ∷ []) ∷ []) (inc_it ∷ []) origin ≡ number (pos 10))
      × (seen_away shows_origin cached9 (held (set_it ∷ []) ∷ []) (at origin unset (pos 0) ∷ inc_it ∷ []) origin ≡ number (pos 1))
      × (seen_away shows_origin cached9 (held (set_it ∷ []) ∷ []) [] origin ≡ number (pos 5))
  -- so what is seen is not worked out from the cached keys alone, nor without them, nor from the cached key where the walk finds a set
  pub stray_seen_cached : SeenAs (λ keys cache buffer own q. cached_field keys q cache) → ⊥
  pub stray_seen_uncached : SeenAs (λ keys cache buffer own q. run (changes_in buffer ++ own) q absent) → ⊥
  pub stray_seen_before : SeenAs (λ keys cache buffer own q. run own q (cached_field keys q cache)) → ⊥
  -- what is found of that plant
  pub found : (found_by (after three_deep setup) (pos 3) origin ≡ true) × (found_by (after three_deep setup) (pos 3) elsewhere ≡ false)
      × (found_by (after three_deep setup) (pos 3) other ≡ true)
  -- a plant on which only reads reach 20, and one on which only changes do: that all, none or one place is found is not as claimed
  pub eight : Plays setup eight_set × Plays (after eight_set setup) (read 1 0 gets says 2 ∷ read 1 1 gets no 20 ∷ edit_origin 1 inc (pos 1) gets no 5 ∷ [])
  pub stray_read_all : Decides (after eight_set setup) (λ s q. true) → ⊥
  pub stray_read_none : Decides (after eight_set setup) (λ s q. false) → ⊥
  pub stray_read_one : Decides (after eight_set setup) (λ s. same_place origin) → ⊥
  pub no_key : Plays setup keyless × Plays (after keyless setup) (edit_origin 1 inc (pos 1) gets says 2 ∷ edit 1 0 1 inc (pos 1) gets no 20 ∷ read 1 0 gets no 9 ∷ [])
  pub stray_change_all : Decides (after keyless setup) (λ s q. true) → ⊥
  pub stray_change_none : Decides (after keyless setup) (λ s q. false) → ⊥
  -- a walk past sessions with a row, or without the own changes, decides otherwise; so do the cached keys, or the walk, alone
  pub stray_pending : DecidesAs (λ p s q. found_away p.keys p.cache q (walk_back (pending p.rows p.buffer) (own s p) q)) → ⊥
  pub stray_not_own : DecidesAs (λ p s q. found_away p.keys p.cache q (walk_back p.buffer [] q)) → ⊥
  pub stray_cached_only : DecidesAs (λ p s q. any (shows_it p.keys q) p.cache) → ⊥
  pub stray_walked_only : DecidesAs (λ p s q. (walk_of p s q).found) → ⊥
