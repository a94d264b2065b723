-- The rules that a plant's tables keep between calls: of the plant alone, without a history, as one test that computes.
use Rattle.std.specs.Prelude.{◌+◌, suc, ℕ, Bool, ◌&&◌, ◌||◌, cond, not, true, List, [], ◌∷◌, map, length, eqb, leb, ltb}
use Rattle.std.proofs.Math.Option.{Option, none, some}
use Rattle.rules.specs.Lists.{all, pairwise, same_list, is_empty, has, upto, is_once, every}
use Rattle.rules.specs.Limits.{field_count, key_count, place_limit, cache_limit, slot_limit, change_limit, buffer_limit, row_limit, worker_count, lease_ticks, session_ticks, last_tick, first_session, last_session}
use Rattle.rules.specs.Values.{Place, in_range, twice, absent, field_ok, Stock, same_field}
use Rattle.rules.specs.Changes.{run, accepts, sets_it, update_ok}
use Rattle.rules.specs.Tables.{Lease, free, shared, exclusive, is_held, is_exclusive, documents, Session, Slot, Cached, keys_of, Batch, numbers_of, is_buffered, is_oldest, pending, changes_in, Hand, empty, holds, Queue, idle, leased, Plant}
use Rattle.rules.specs.Reading.{current}

-- ── the store ──
-- every place of the 256
abbrev pub all_places : (Place → Bool) → Bool
all_places test = all (λ d. all (λ f. test (record { document = d; field = f })) (upto field_count)) documents

-- ── keys and cached keys ──
-- undefined, or 1 to 4 places, all in range, none twice
abbrev pub key_ok : List Place → Bool
key_ok qs = leb (length qs) place_limit && all in_range qs && not (twice qs)

-- a cached key is one of the 32 and defined
abbrev pub is_defined : (ℕ → List Place) → Cached → Bool
is_defined keys c = ltb c.key key_count && not (is_empty (keys c.key))

-- its fields are those that the store and the buffered changes show
abbrev pub is_current : Stock → (ℕ → List Place) → Cached → Bool
is_current now keys c = same_list same_field c.fields (map now (keys c.key))

-- nothing is cached before the first session
abbrev pub cache_rules : Stock → (ℕ → List Place) → ℕ → List Cached → List Bool
cache_rules now keys next l =
    leb (length l) cache_limit
    ∷ is_once (keys_of l)
    ∷ all (is_defined keys) l
    ∷ all (is_current now keys) l
    ∷ (is_empty l || ltb first_session next)
    ∷ []

-- ── sessions ──
-- a number that a session has had
abbrev pub good_number : ℕ → ℕ → Bool
good_number next n = leb first_session n && ltb n next

-- granted in the past and not lapsed
abbrev pub in_time : ℕ → ℕ → Bool
in_time clock t = leb t clock && ltb clock (t + lease_ticks)

abbrev pub lease_ok : ℕ → Lease → Bool
lease_ok clock free = true
lease_ok clock (shared t) = in_time clock t
lease_ok clock (exclusive t) = in_time clock t

-- the one form of a doomed session
abbrev pub holds_nothing : Session → Bool
holds_nothing s = eqb s.begun 0 && is_empty s.changes && all (λ d. not (is_held (s.lease d))) documents

-- at most 8 changes, each well formed and under an exclusive lease, accepted in order by the stock
abbrev pub changes_ok : Stock → Session → Bool
changes_ok now s =
    leb (length s.changes) change_limit && all update_ok s.changes && all (λ c. is_exclusive (s.lease c.at.document)) s.changes
    && accepts now s.changes

abbrev pub live_ok : Stock → ℕ → Session → Bool
live_ok now clock s =
    leb s.begun clock && ltb clock (s.begun + session_ticks) && all (λ d. lease_ok clock (s.lease d)) documents && changes_ok now s

abbrev pub session_ok : Stock → ℕ → Session → Bool
session_ok now clock s = cond s.doomed (holds_nothing s) (live_ok now clock s)

-- two leases on one document: an exclusive one excludes the other
abbrev pub apart_at : Lease → Lease → Bool
apart_at x y = not (is_exclusive x && is_held y) && not (is_held x && is_exclusive y)

abbrev pub are_apart : Session → Session → Bool
are_apart a b = all (λ d. apart_at (a.lease d) (b.lease d)) documents

-- slots stand in order of number
abbrev pub slot_rules : Stock → ℕ → ℕ → List Slot → List Bool
slot_rules now clock next l =
    leb (length l) slot_limit
    ∷ pairwise (λ a b. ltb a.number b.number) l
    ∷ all (λ s. good_number next s.number) l
    ∷ all (λ s. session_ok now clock s.session) l
    ∷ pairwise (λ a b. are_apart a.session b.session) l
    ∷ []

-- a session with a slot is neither buffered nor applied
abbrev pub is_fresh : List Batch → List ℕ → ℕ → Bool
is_fresh buffer rows n = not (is_buffered n buffer) && not (has n rows)

-- ── the buffer and the rows ──
abbrev pub batch_ok : ℕ → Batch → Bool
batch_ok next b = good_number next b.number && not (is_empty b.changes) && leb (length b.changes) change_limit && all update_ok b.changes

-- of the buffered sessions only the oldest may have a row
abbrev pub only_oldest_applied : List ℕ → List Batch → Bool
only_oldest_applied rows [] = true
only_oldest_applied rows (b ∷ l) = all (λ c. not (has c.number rows)) l

-- where the oldest has its row, the store shows what it set or unset
abbrev pub applied_shows : Stock → List ℕ → List Batch → Bool
applied_shows store rows [] = true
applied_shows store rows (b ∷ l) =
    not (has b.number rows) || all_places (λ q. not (sets_it b.changes q) || same_field (store q) (run b.changes q absent))

-- the store accepts the changes of the sessions without a row, in order
abbrev pub buffer_rules : Stock → List ℕ → ℕ → List Batch → List Bool
buffer_rules store rows next l =
    leb (length l) buffer_limit
    ∷ is_once (numbers_of l)
    ∷ all (batch_ok next) l
    ∷ only_oldest_applied rows l
    ∷ accepts store (changes_in (pending rows l))
    ∷ applied_shows store rows l
    ∷ []

abbrev pub row_rules : ℕ → List ℕ → List Bool
row_rules next rows = leb (length rows) row_limit ∷ is_once rows ∷ all (good_number next) rows ∷ []

-- ── the workers ──
-- a session in a hand has a row, or is the oldest buffered one and no reply has come
abbrev pub hand_ok : List ℕ → List Batch → Hand → Bool
hand_ok rows buffer empty = true
hand_ok rows buffer (holds n r) = has n rows || (not r && is_oldest n buffer)

abbrev pub owner_ok : Option ℕ → Bool
owner_ok none = true
owner_ok (some w) = ltb w worker_count

abbrev pub queue_ok : ℕ → Queue → Bool
queue_ok clock idle = true
queue_ok clock (leased o t) = in_time clock t && owner_ok o

-- ── the plant ──
abbrev pub plant_rules : Plant → List Bool
plant_rules p =
    all_places (λ q. field_ok (p.store q))
    ∷ all (λ k. key_ok (p.keys k)) (upto key_count)
    ∷ every (cache_rules (current p) p.keys p.next p.cache)
    ∷ every (slot_rules (current p) p.clock p.next p.slots)
    ∷ all (λ s. is_fresh p.buffer p.rows s.number) p.slots
    ∷ every (buffer_rules p.store p.rows p.next p.buffer)
    ∷ every (row_rules p.next p.rows)
    ∷ all (λ w. hand_ok p.rows p.buffer (p.hands w)) (upto worker_count)
    ∷ queue_ok p.clock p.queue
    ∷ leb p.clock last_tick
    ∷ leb first_session p.next
    ∷ leb p.next (suc last_session)
    ∷ []

unfoldable pub kept : Plant → Bool
kept p = every (plant_rules p)
