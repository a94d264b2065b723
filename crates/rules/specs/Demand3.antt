-- Demand 3: the claim about every list of calls from set-up. Its proof is proofs/Demand3.
use Rattle.std.specs.Prelude.{◌+◌, ◌<◌, ◌≤◌, suc, zero, ℕ, ◌≡◌, Bool, ◌||◌, false, true, List, [], ◌++◌, ◌∷◌, map, length, pos}
use Rattle.std.proofs.Math.Option.{none}
use Rattle.rules.specs.Lists.{any, has, bit, InOrder}
use Rattle.rules.specs.Limits.{worker_count, lease_ticks, last_tick}
use Rattle.rules.specs.Values.{Stock, show_all}
use Rattle.rules.specs.Changes.{meets, follow}
use Rattle.rules.specs.Tables.{numbers_of, Plant}
use Rattle.rules.specs.Calls.{arrives, fate_number, Call, Advance, Take, Apply, Delete, Cut, Sweep, Store, done, Answer, refused, fine}
use Rattle.rules.specs.History.{saw, wrote, Page, changes_of, changes_nothing, Committed, History, whole, whole_history, Turn, World, does, turns, initial}

-- ── committed pages, each at its place ──
-- a page is right at a stock: its changes meet no refusal, its reads show the stock followed by the changes above them
abbrev pub Right : Stock → Page → Type 0
Right s [] = Unit {0}
Right s (saw qs ws ∷ l) = (ws ≡ show_all (map s qs)) × Right s l
Right s (wrote c ∷ l) = (meets c (s c.at) ≡ none) × Right (follow s (c ∷ [])) l

abbrev pub AllRight : Stock → List Committed → Type 0
AllRight s [] = Unit {0}
AllRight s (x ∷ l) = Right s x.page × AllRight (follow s (changes_of x.page)) l

-- ── the store holds a first part of the history, the pages of the rest are buffered ──
abbrev pub AllBuffered : List ℕ → List Committed → Type 0
AllBuffered b [] = Unit {0}
AllBuffered b (x ∷ l) = (changes_nothing x.page ≡ false → has x.number b ≡ true) × AllBuffered b l

pub record FirstPart (h : History) (store : Stock) : Type 0 where
  pub done : List Committed
  pub left : List Committed
  pub split : h.commits ≡ done ++ left
  pub stock : store ≡ follow h.start (whole done)
  pub others : AllBuffered h.buffered left

-- what is buffered stands in commit order
abbrev pub CommitOrder : History → Type 0
CommitOrder h = InOrder h.buffered (map (λ x. x.number) h.commits)

-- ── the drain ──
-- what is added before the first take, in any order: a cut of the worker, advances, store 1
pub data Preparation : Type 0 where
  cut_worker bring_near : Preparation
  wait : ℕ → Preparation

abbrev pub preparing : ℕ → Preparation → Call
preparing v cut_worker = Cut (pos v)
preparing v bring_near = Store (pos (bit true))
preparing v (wait n) = Advance (pos n)

abbrev pub is_cut : Preparation → Bool
is_cut cut_worker = true
is_cut bring_near = false
is_cut (wait n) = false

abbrev pub is_near : Preparation → Bool
is_near cut_worker = false
is_near bring_near = true
is_near (wait n) = false

abbrev pub ticks_of : Preparation → ℕ
ticks_of cut_worker = 0
ticks_of bring_near = 0
ticks_of (wait n) = n

abbrev pub ticks : List Preparation → ℕ
ticks [] = 0
ticks (x ∷ l) = ticks_of x + ticks l

-- the worker is cut, the clock has 300 ticks left and moves by them, and the store is near then
pub record Prepares (p : Plant) (l : List Preparation) : Type 0 where
  pub worker : any is_cut l ≡ true
  pub moves : ticks l ≡ lease_ticks
  pub ticks_left : p.clock + lease_ticks ≤ last_tick
  pub store : p.near || any is_near l ≡ true

abbrev pub four_calls : ℕ → List Call
four_calls v = Take (pos v) ∷ Sweep ∷ Apply (pos v) (pos (fate_number arrives)) ∷ Delete (pos v) ∷ []

abbrev pub rounds : ℕ → ℕ → List Call
rounds v zero = []
rounds v (suc n) = four_calls v ++ rounds v n

abbrev pub calls_of : List Turn → List Call
calls_of = map (λ t. t.call)

abbrev pub is_fine : Answer → Bool
is_fine (refused r) = false
is_fine (fine ns) = true

abbrev pub NoneRefused : List Turn → Plant → Type 0
NoneRefused [] p = Unit {0}
NoneRefused (t ∷ ts) p = (is_fine (does t p).answer ≡ true) × NoneRefused ts (does t p).plant

-- no call of the list is refused, nothing is buffered after it, and the store is the whole history
pub record Drained (ts : List Turn) (w : World) : Type 0 where
  pub none_refused : NoneRefused ts w.plant
  pub nothing_buffered : (turns ts w).plant.buffer ≡ []
  pub all_stored : (turns ts w).plant.store ≡ whole_history (turns ts w).history

-- whichever worker, whatever is lent: the preparation and four calls for each buffered page
abbrev pub Drains : World → Type 0
Drains w =
    (v : ℕ) → v < worker_count → (l : List Preparation) → Prepares w.plant l
    → (ts us : List Turn) → calls_of ts ≡ map (preparing v) l → calls_of us ≡ rounds v (length w.history.buffered)
    → Drained (ts ++ us) w

-- ── the claim ──
pub record Holds (w : World) : Type 0 where
  pub first_part : FirstPart w.history w.plant.store
  pub buffer : numbers_of w.plant.buffer ≡ w.history.buffered
  pub commit_order : CommitOrder w.history
  pub as_alone : AllRight w.history.start w.history.commits
  pub drains : Drains w

-- after every list of calls from set-up, with any arguments and any words lent
abbrev pub Demand3 : Type 0
Demand3 = (ts : List Turn) → Holds (turns ts initial)
