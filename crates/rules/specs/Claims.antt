-- What is claimed of one call, and of lists of calls beside demand 3. Each claim is a type; proofs/Theorem names the proof of each.
use Rattle.std.specs.Prelude.{◌*◌, ◌+◌, suc, ℕ, ◌≡◌, Bool, false, true, List, [], ◌++◌, ◌∷◌, map, drop, length, leb, ltb, pos, ℤ}
use Rattle.std.proofs.Math.Option.{some}
use Rattle.rules.specs.Lists.{any, all, pairwise, bit, span}
use Rattle.rules.specs.Limits.{words_per_field, first_session, last_session}
use Rattle.rules.specs.Refusals.{Refusal, was_doomed, exclusive_elsewhere}
use Rattle.rules.specs.Values.{nat_of, Place, in_range, field_ok, Stock, show_all}
use Rattle.rules.specs.Changes.{kind_of, Update, follow, touches, is_set, place_of, update_of}
use Rattle.rules.specs.Tables.{has_slot, session, freed, Batch, empty, holds, Queue, leased, Plant, setup, with_store, with_keys, with_cache, with_slots, with_buffer, with_rows, with_hand, with_queue, with_clock, with_near, with_next}
use Rattle.rules.specs.Reading.{seen, known_away, seen_away}
use Rattle.rules.specs.Calls.{Pairs, Call, Load, Map, Begin, Read, Change, Commit, Abandon, Advance, Take, Apply, Delete, Cut, Sweep, Store, Report, Mark, mark_number, Reply, reply_number, refused, fine}
use Rattle.rules.specs.Conditions.{own}
use Rattle.rules.specs.Step.{step}
use Rattle.rules.specs.Kept.{kept}
use Rattle.rules.specs.History.{changes_of, History, whole_history, Turn, turns, initial, left_by, exchanges, numbers_begun}
use Rattle.rules.specs.Answers.{Opens, Marks, Buffers, Replies, has_come, Deletes, Reports, Sweeps}

-- ── demand 1 ──
-- a refused call leaves the plant and the words, but for refusals 3 and 4
abbrev pub RefusalsLeave : Type 0
RefusalsLeave =
    (c : Call) (lent : List ℤ) (p : Plant) (r : Refusal) → (step c lent p).answer ≡ refused r
    → (r ≡ was_doomed → ⊥) → (r ≡ exclusive_elsewhere → ⊥) → step c lent p ≡ record { answer = refused r; words = lent; plant = p }

-- these end the session s that met them, and leave all else
abbrev pub Ends : Refusal → Call → ℤ → Type 0
Ends r c s =
    (lent : List ℤ) (p : Plant) → (step c lent p).answer ≡ refused r
    → step c lent p ≡ record { answer = refused r; words = lent; plant = with_slots (freed (nat_of s) p.slots) p }

pub record EndsSession (r : Refusal) : Type 0 where
  pub read : (s k : ℤ) → Ends r (Read s k) s
  pub change : (s d f k v : ℤ) → Ends r (Change s d f k v) s
  pub commit : (s : ℤ) → Ends r (Commit s) s
  pub abandon : (s : ℤ) → Ends r (Abandon s) s
  pub report : (s : ℤ) → Ends r (Report s) s

-- a call without a session meets neither, so each of its refusals leaves plant and words
abbrev pub Spares : Call → Type 0
Spares c =
    (lent : List ℤ) (p : Plant) (r : Refusal) → (step c lent p).answer ≡ refused r
    → (r ≡ was_doomed → ⊥) × (r ≡ exclusive_elsewhere → ⊥) × (step c lent p ≡ record { answer = refused r; words = lent; plant = p })

pub record SparesSessions : Type 0 where
  pub load : (d f k v : ℤ) → Spares (Load d f k v)
  pub map : (k n : ℤ) (m : Pairs) → Spares (Map k n m)
  pub begin : Spares Begin
  pub advance : (n : ℤ) → Spares (Advance n)
  pub take : (w : ℤ) → Spares (Take w)
  pub apply : (w fate : ℤ) → Spares (Apply w fate)
  pub delete : (w : ℤ) → Spares (Delete w)
  pub cut : (w : ℤ) → Spares (Cut w)
  pub sweep : Spares Sweep
  pub store : (n : ℤ) → Spares (Store n)

-- ── what a call may write, refused or not ──
-- the plant left, q, is p but for these tables
abbrev pub Writes : Call → Plant → Plant → Type 0
Writes (Load d f k v) p q = q ≡ with_store q.store p
Writes (Map k n m) p q = q ≡ with_keys q.keys p
Writes Begin p q = q ≡ with_next q.next (with_slots q.slots p)
Writes (Read s k) p q = q ≡ with_cache q.cache (with_slots q.slots p)
Writes (Change s d f k v) p q = q ≡ with_slots q.slots p
Writes (Commit s) p q = q ≡ with_buffer q.buffer (with_cache q.cache (with_slots q.slots p))
Writes (Abandon s) p q = q ≡ with_slots q.slots p
Writes (Advance n) p q = q ≡ with_clock q.clock (with_cache q.cache (with_slots q.slots (with_queue q.queue p)))
Writes (Take w) p q = q ≡ with_hand (nat_of w) (q.hands (nat_of w)) (with_queue q.queue p)
Writes (Apply w fate) p q = q ≡ with_hand (nat_of w) (q.hands (nat_of w)) (with_store q.store (with_rows q.rows p))
Writes (Delete w) p q = q ≡ with_buffer q.buffer (with_hand (nat_of w) (q.hands (nat_of w)) (with_queue q.queue p))
Writes (Cut w) p q = q ≡ with_hand (nat_of w) (q.hands (nat_of w)) (with_queue q.queue p)
Writes Sweep p q = q ≡ with_rows q.rows p
Writes (Store n) p q = q ≡ with_near q.near p
Writes (Report s) p q = q ≡ with_slots q.slots p

abbrev pub WritesOnly : Type 0
WritesOnly = (c : Call) (lent : List ℤ) (p : Plant) → Writes c p (step c lent p).plant

-- only a read writes into the caller's memory, and it leaves that as long as it was
abbrev pub Fills : Call → List ℤ → List ℤ → Type 0
Fills (Load d f k v) lent ws = ws ≡ lent
Fills (Map k n m) lent ws = ws ≡ lent
Fills Begin lent ws = ws ≡ lent
Fills (Read s k) lent ws = length ws ≡ length lent
Fills (Change s d f k v) lent ws = ws ≡ lent
Fills (Commit s) lent ws = ws ≡ lent
Fills (Abandon s) lent ws = ws ≡ lent
Fills (Advance n) lent ws = ws ≡ lent
Fills (Take w) lent ws = ws ≡ lent
Fills (Apply w fate) lent ws = ws ≡ lent
Fills (Delete w) lent ws = ws ≡ lent
Fills (Cut w) lent ws = ws ≡ lent
Fills Sweep lent ws = ws ≡ lent
Fills (Store n) lent ws = ws ≡ lent
Fills (Report s) lent ws = ws ≡ lent

abbrev pub FillsOnly : Type 0
FillsOnly = (c : Call) (lent : List ℤ) (p : Plant) → Fills c lent (step c lent p).words

-- ── the plant's rules ──
abbrev pub SetupKept : Type 0
SetupKept = kept setup ≡ true

-- every call keeps them, refused or not
abbrev pub StepKeeps : Type 0
StepKeeps =
    (c : Call) (lent : List ℤ) (p : Plant) → kept p ≡ true → kept (step c lent p).plant ≡ true

-- ── demand 2 ──
-- a field known without the store is found without it
abbrev pub KnownAway : Type 0
KnownAway =
    (p : Plant) (cs : List Update) (q : Place) → kept p ≡ true → in_range q ≡ true
    → known_away p.keys p.cache p.buffer cs q ≡ true
    → seen_away p.keys p.cache p.buffer cs q ≡ seen p cs q

-- while the store is away an accepted read shows what is found without it, and a change 3 to 6 has a field that is known without it
pub record NeedsNoStore (p : Plant) : Type 0 where
  pub read : (s k : ℤ) (lent : List ℤ) (ns : List ℕ) → (step (Read s k) lent p).answer ≡ fine ns
      → (step (Read s k) lent p).words
      ≡ show_all (map (seen_away p.keys p.cache p.buffer (own s p)) (p.keys (nat_of k))) ++ drop (words_per_field * length (p.keys (nat_of k))) lent
  pub change : (s d f k v : ℤ) (lent : List ℤ) (ns : List ℕ) → (step (Change s d f k v) lent p).answer ≡ fine ns
      → is_set (kind_of (nat_of k)) ≡ false → known_away p.keys p.cache p.buffer (own s p) (place_of d f) ≡ true

abbrev pub StoreAway : Type 0
StoreAway = (p : Plant) → kept p ≡ true → p.near ≡ false → NeedsNoStore p

-- every number that a session sees is one of 32 bits, and every list has at most six
abbrev pub SeenFits : Type 0
SeenFits = (p : Plant) (s : ℕ) (q : Place) → kept p ≡ true → in_range q ≡ true → field_ok (seen p (session s p.slots).changes q) ≡ true

-- an answered read, cached or not, shows the starting stock with all committed sessions in commit order and then its own changes;
-- the words past these are untouched
abbrev pub shown_to : History → ℤ → Stock
shown_to h s = follow (whole_history h) (changes_of (h.page (nat_of s)))

abbrev pub ShownBy : History → ℤ → ℤ → List ℤ → List ℤ
ShownBy h s k lent =
    show_all (map (shown_to h s) (h.keys (nat_of k)))
    ++ drop (words_per_field * length (h.keys (nat_of k))) lent

abbrev pub ReadsShow : Type 0
ReadsShow =
    (ts : List Turn) (s k : ℤ) (lent : List ℤ) (ns : List ℕ) → (step (Read s k) lent (left_by ts)).answer ≡ fine ns
    → (step (Read s k) lent (left_by ts)).words ≡ ShownBy (turns ts initial).history s k lent

-- a commit does not touch the store
abbrev pub CommitLeavesStore : Type 0
CommitLeavesStore =
    (s : ℤ) (lent : List ℤ) (p : Plant)
    → ((step (Commit s) lent p).plant.store ≡ p.store) × ((step (Commit s) lent p).plant.rows ≡ p.rows)

-- ── the numbers answered are those of the tables left, and mean what Answers says ──
abbrev pub Counts : Call → Plant → List ℕ → Plant → Type 0
Counts (Load d f k v) p ns q = ns ≡ []
Counts (Map k n m) p ns q = ns ≡ []
Counts Begin p ns q = (ns ≡ p.next ∷ []) × (q.next ≡ suc p.next) × Opens p.next p q
Counts (Read s k) p ns q =
    (m : Mark) × (ns ≡ mark_number m ∷ []) × Marks m (nat_of k) (any (touches (own s p)) (p.keys (nat_of k))) p.cache q.cache
Counts (Change s d f k v) p ns q =
    (ns ≡ length (own s q) ∷ []) × (own s q ≡ own s p ++ (update_of (place_of d f) (nat_of k) v ∷ []))
Counts (Commit s) p ns q =
    (ns ≡ length q.buffer ∷ []) × Buffers (nat_of s) (own s p) p.buffer q.buffer × (has_slot (nat_of s) q.slots ≡ false)
Counts (Abandon s) p ns q = (ns ≡ []) × (has_slot (nat_of s) q.slots ≡ false)
Counts (Advance n) p ns q = (ns ≡ q.clock ∷ []) × (q.clock ≡ p.clock + nat_of n)
-- the oldest buffered session, and the queue lease from now on
Counts (Take w) p ns q =
    (b : Batch) × (l : List Batch) × (p.buffer ≡ b ∷ l) × (ns ≡ b.number ∷ []) × (q.hands (nat_of w) ≡ holds b.number false)
    × (q.queue ≡ leased (some (nat_of w)) p.clock)
Counts (Apply w fate) p ns q =
    (r : Reply) × (n : ℕ) × (ns ≡ reply_number r ∷ []) × (p.hands (nat_of w) ≡ holds n false) × (q.hands (nat_of w) ≡ holds n (has_come r))
    × Replies r fate n p q
Counts (Delete w) p ns q =
    (was : Bool) × (n : ℕ) × (ns ≡ bit was ∷ []) × (p.hands (nat_of w) ≡ holds n true) × (q.hands (nat_of w) ≡ empty)
    × Deletes was n p.buffer q.buffer
Counts (Cut w) p ns q = (ns ≡ []) × (q.hands (nat_of w) ≡ empty)
Counts Sweep p ns q = (n : ℕ) × (ns ≡ n ∷ []) × Sweeps n p q
Counts (Store n) p ns q = (ns ≡ []) × (n ≡ pos (bit q.near))
Counts (Report s) p ns q = (q ≡ p) × Reports (session (nat_of s) p.slots) ns

abbrev pub AnswersCount : Type 0
AnswersCount =
    (c : Call) (lent : List ℤ) (p : Plant) (ns : List ℕ) → kept p ≡ true
    → (step c lent p).answer ≡ fine ns → Counts c p ns (step c lent p).plant

-- session numbers count from 1 to the last, so that they rise and none is used again
pub record Rises (ns : List ℕ) : Type 0 where
  pub counts : ns ≡ span first_session (length ns)
  pub rises : pairwise ltb ns ≡ true
  pub ends : all (λ n. leb n last_session) ns ≡ true

abbrev pub NumbersRise : Type 0
NumbersRise = (ts : List Turn) → Rises (numbers_begun (exchanges ts initial.plant))

-- ── apply does not look at the queue lease ──
-- under any other it answers and writes the same
abbrev pub LeaseUnseen : Type 0
LeaseUnseen =
    (w fate : ℤ) (lent : List ℤ) (p : Plant) (other : Queue)
    → step (Apply w fate) lent (with_queue other p)
    ≡ record {
      answer = (step (Apply w fate) lent p).answer;
      words = (step (Apply w fate) lent p).words;
      plant = with_queue other (step (Apply w fate) lent p).plant;
    }
