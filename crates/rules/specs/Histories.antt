-- The history and demand 3 tried on worked cases: what a list of calls writes, what the drain is asked of, and wrong worlds that demand 3 tells from right ones.
use Rattle.std.specs.Prelude.{ℕ, ◌≡◌, false, true, replicate, negsuc, pos, ℤ}
use mathlib.Core.List.{List, [], ◌++◌, ◌∷◌, map}
use Rattle.rules.specs.Lists.{upto}
use Rattle.rules.specs.Values.{absent, number, Stock}
use Rattle.rules.specs.Changes.{set, inc, push, Update, change, meets}
use Rattle.rules.specs.Tables.{numbers_of, Plant, setup, with_buffer, with_clock, with_store}
use Rattle.rules.specs.Calls.{arrives, Load, Begin, Change, Abandon, Advance, Take, Apply, Delete, Cut, Sweep, Store}
use Rattle.rules.specs.Effects.{changed, committed, abandoned, taken, carried}
use Rattle.rules.specs.Step.{accepted}
use Rattle.rules.specs.History.{saw, wrote, Page, Committed, History, empty_history, with_commits, with_buffered, Turn, World, turns, initial, exchanges, numbers_begun}
use Rattle.rules.specs.Demand3.{Right, AllRight, FirstPart, CommitOrder, Prepares, cut_worker, bring_near, wait, preparing, rounds, NoneRefused, Drained, Holds, Demand3}
use Rattle.rules.specs.Scenario.{Line, ◌gets◌, yes, says, no, pair, zeros, map_two, read, edit, commit, report, advance, takes, apply, delete, cuts, near, origin, map_origin, edit_origin, setting, after, Plays, begins, slow1, latter_first}

-- the turns of a run, with seventeen words lent
abbrev pub turns_of : List Line → List Turn
turns_of = map (λ l. record { call = l.call; lent = replicate 17 (pos 7) })

-- the world that a run leaves
abbrev pub world_of : List Line → World
world_of ls = turns (turns_of ls) initial

-- a session's life with the store: read, changed, committed, carried; another commits an empty page before it, a third a page of one read after it
abbrev pub life : List Line
life =
    Load (pos 0) (pos 0) (pos 1) (pos 100) gets yes
    ∷ map_origin gets yes
    ∷ map_two 1 (pair 1 0) zeros gets yes
    ∷ Begin gets says 1
    ∷ read 1 0 gets says 1
    ∷ Change (pos 1) (pos 0) (pos 0) (pos 3) (negsuc 24) gets says 1
    ∷ Begin gets says 2
    ∷ commit 2 gets says 0
    ∷ commit 1 gets says 1
    ∷ takes 3 gets says 1
    ∷ Begin gets says 3
    ∷ read 3 1 gets says 1
    ∷ commit 3 gets says 1
    ∷ []

-- all slots taken after it; then calls that write nothing: accepted ones of seven kinds, and refused ones of the others
abbrev pub loud : List Line
loud = life ++ begins 8 3 ++ (edit 4 5 0 set (pos 1) gets says 1 ∷ [])

abbrev pub quiet : List Line
quiet =
    report 4 gets (0 ∷ 0 ∷ 1 ∷ 1 ∷ [])
    ∷ Begin gets no 10
    ∷ Abandon (pos 4) gets yes
    ∷ advance 5 gets says 5
    ∷ Load (pos 0) (pos 0) (pos 1) (pos 100) gets no 12
    ∷ map_origin gets no 12
    ∷ read 4 0 gets no 2
    ∷ edit_origin 4 set (pos 5) gets no 2
    ∷ commit 4 gets no 2
    ∷ takes 3 gets no 17
    ∷ delete 3 gets no 17
    ∷ apply 3 arrives gets says 1
    ∷ cuts 3 gets yes
    ∷ Sweep gets says 0
    ∷ near true gets yes
    ∷ []

-- worker 0, slow, deletes session 1 after worker 1 did so and took session 2
abbrev pub slow_delete : List Line
slow_delete = slow1 ++ setting 2 1 ++ (takes 1 gets says 2 ∷ apply 0 arrives gets says 2 ∷ delete 0 gets says 0 ∷ [])

-- a session committed and carried, with refused calls between, and a sweep of its row
abbrev pub carried_and_swept : List Line
carried_and_swept =
    setting 1 1
    ++ (commit 1 gets no 2
    ∷ takes 4 gets no 1
    ∷ takes 0 gets says 1
    ∷ apply 0 arrives gets says 1
    ∷ delete 0 gets says 1
    ∷ Sweep gets says 1
    ∷ [])

-- session 1 buffered, the store away and the clock's last 300 ticks ahead
abbrev pub late_world : World
late_world =
    record { plant = with_clock 99999999699 (world_of (setting 1 1 ++ (near false gets yes ∷ []))).plant; history = (world_of (setting 1 1)).history }

-- the preparation and the four calls, of worker 3
abbrev pub late_calls : List Line
late_calls = cuts 3 gets yes ∷ advance 100 gets says 99999999799 ∷ near true gets yes ∷ advance 200 gets says 99999999999 ∷ []

abbrev pub four_of3 : List Line
four_of3 = takes 3 gets says 1 ∷ Sweep gets says 0 ∷ apply 3 arrives gets says 1 ∷ delete 3 gets says 1 ∷ []

-- the words of a number, and of an absent field
abbrev pub words_of : ℕ → List ℤ
words_of n = pos 1 ∷ pos 1 ∷ pos n ∷ pos 0 ∷ pos 0 ∷ pos 0 ∷ pos 0 ∷ pos 0 ∷ []

abbrev pub no_words : List ℤ
no_words = replicate 8 (pos 0)

abbrev pub set_five : Update
set_five = record { at = origin; kind = set; value = pos 5 }

abbrev pub push_five : Update
push_five = record { at = origin; kind = push; value = pos 5 }

-- the empty stock, and one with 5 at every place
abbrev pub nothing : Stock
nothing q = absent

abbrev pub five : Stock
five q = number (pos 5)

-- session 1's page set the origin; a second one's page says otherwise
abbrev pub five_set : Committed
five_set = record { number = 1; page = wrote set_five ∷ [] }

abbrev pub saw_nothing : Committed
saw_nothing = record { number = 2; page = saw (origin ∷ []) no_words ∷ [] }

-- a history with pages and buffered sessions, and a world that has it
abbrev pub history_with : List Committed → List ℕ → History
history_with l b = with_commits l (with_buffered b empty_history)

abbrev pub world_with : Plant → History → World
world_with p h = record { plant = p; history = h }

-- the pages of that life: a read of 100 and a change, a read of two places, and a change that is abandoned
abbrev pub page1 : Page
page1 = saw (origin ∷ []) (words_of 100) ∷ wrote (record { at = origin; kind = inc; value = negsuc 24 }) ∷ []

abbrev pub page3 : Page
page3 = saw (record { document = 1; field = 0 } ∷ origin ∷ []) (no_words ++ words_of 75) ∷ []

abbrev pub page4 : Page
page4 = wrote (record { at = record { document = 5; field = 0 }; kind = set; value = pos 1 }) ∷ []

abbrev pub life_pages : List Committed
life_pages = record { number = 2; page = [] } ∷ record { number = 1; page = page1 } ∷ record { number = 3; page = page3 } ∷ []

pub record Histories : Type 0 where
  -- ── the history, from calls and answers alone ──
  pub played : Plays setup loud × Plays (after loud setup) quiet
  pub pages : (world_of life).history.commits ≡ life_pages
  pub start_and_notes : ((world_of life).history.start origin ≡ number (pos 100))
      × ((world_of life).history.buffered ≡ 1 ∷ [])
      × (map (world_of life).history.noted (upto 4) ≡ 0 ∷ 0 ∷ 0 ∷ 1 ∷ [])
      × (map (world_of life).history.page (upto 4) ≡ [] ∷ page1 ∷ [] ∷ page3 ∷ [])
      × (map (world_of life).history.keys (upto 3) ≡ (origin ∷ []) ∷ (record { document = 1; field = 0 } ∷ origin ∷ []) ∷ [] ∷ [])
  -- every other call, and each refused one, leaves the history as it is
  pub quiet_pages : (world_of (loud ++ quiet)).history.commits ≡ life_pages
  pub quiet_notes : ((world_of (loud ++ quiet)).history.start origin ≡ number (pos 100))
      × ((world_of (loud ++ quiet)).history.buffered ≡ 1 ∷ [])
      × (map (world_of (loud ++ quiet)).history.noted (upto 4) ≡ 0 ∷ 0 ∷ 0 ∷ 1 ∷ [])
      × (map (world_of (loud ++ quiet)).history.page (upto 6) ≡ [] ∷ page1 ∷ [] ∷ page3 ∷ page4 ∷ [] ∷ [])
      × (map (world_of (loud ++ quiet)).history.keys (upto 3) ≡ (origin ∷ []) ∷ (record { document = 1; field = 0 } ∷ origin ∷ []) ∷ [] ∷ [])
  -- the numbers that begins answered, and no other call's
  pub numbers : numbers_begun (exchanges (turns_of (setting 1 1 ++ setting 2 2)) setup) ≡ 1 ∷ 2 ∷ []
  -- a delete makes the session noted for its own worker buffered no longer
  pub deletes : ((world_of slow_delete).history.buffered ≡ 2 ∷ []) × (numbers_of (world_of slow_delete).plant.buffer ≡ 2 ∷ [])
  -- and no other, of a lower number
  pub deletes_latter : ((world_of latter_first).history.buffered ≡ 1 ∷ []) × (numbers_of (world_of latter_first).plant.buffer ≡ 1 ∷ [])
  -- ── what demand 3 is asked of ──
  -- the four calls once for each buffered page, and what is added before them
  pub four : rounds 3 2
      ≡ Take (pos 3) ∷ Sweep ∷ Apply (pos 3) (pos 0) ∷ Delete (pos 3) ∷ Take (pos 3) ∷ Sweep ∷ Apply (pos 3) (pos 0) ∷ Delete (pos 3) ∷ []
  pub added : map (preparing 3) (wait 100 ∷ bring_near ∷ cut_worker ∷ []) ≡ Advance (pos 100) ∷ Store (pos 1) ∷ Cut (pos 3) ∷ []
  -- a clock with just 300 ticks left, advances that are 300 in all, a store that store 1 brings near
  pub last_ticks : Prepares (with_clock 99999999699 setup) (wait 100 ∷ cut_worker ∷ wait 200 ∷ [])
  pub brought_near : Prepares (after (near false gets yes ∷ []) setup) (cut_worker ∷ wait 300 ∷ bring_near ∷ [])
  pub both_near : Prepares setup (bring_near ∷ wait 300 ∷ wait 0 ∷ cut_worker ∷ cut_worker ∷ [])
  -- the last worker, at the clock's end, of a store that is away
  pub drain_plays : Plays late_world.plant (late_calls ++ four_of3)
  pub drains : Holds late_world → Drained (turns_of (late_calls ++ four_of3)) late_world
  -- any list, with refused calls and a sweep in it
  pub every_list : Demand3 → Holds (turns (turns_of carried_and_swept) initial)
  -- ── what demand 3 rules out ──
  -- a read that shows other words, at once, or without the change above it; a change that meets a refusal, below a read or a change
  pub other_words : Right nothing (saw (origin ∷ []) (words_of 5) ∷ wrote set_five ∷ []) → ⊥
  pub old_words : Right nothing (wrote set_five ∷ saw (origin ∷ []) no_words ∷ []) → ⊥
  pub unfit_change : Right five (saw (origin ∷ []) (words_of 5) ∷ wrote push_five ∷ []) → ⊥
  pub unfit_second : Right nothing (wrote set_five ∷ wrote push_five ∷ []) → ⊥
  -- a page that is wrong at its place, the first or after another
  pub wrong_first : AllRight five (saw_nothing ∷ five_set ∷ []) → ⊥
  pub wrong_second : AllRight nothing (five_set ∷ saw_nothing ∷ []) → ⊥
  -- a store with what no page wrote, and one without a page that is not buffered
  pub other_store : FirstPart empty_history five → ⊥
  pub not_buffered : FirstPart (history_with (five_set ∷ []) []) nothing → ⊥
  -- buffered pages out of order, or never committed
  pub disordered : CommitOrder (history_with (five_set ∷ saw_nothing ∷ []) (2 ∷ 1 ∷ [])) → ⊥
  pub never_committed : CommitOrder (history_with [] (1 ∷ [])) → ⊥
  -- a drain with a refused call, with a session left in the buffer, with a page that is not in the store
  pub refused_last : NoneRefused (turns_of (cuts 3 gets yes ∷ cuts 4 gets no 1 ∷ [])) setup → ⊥
  pub left_buffered : Drained [] (world_of (setting 1 1)) → ⊥
  pub not_stored : Drained [] (world_with setup (history_with (five_set ∷ []) [])) → ⊥
  pub not_fine : Drained (turns_of (cuts 4 gets no 1 ∷ [])) initial → ⊥
  -- worlds in which just one part of the claim fails
  pub stray_store : Holds (world_with (with_store five setup) empty_history) → ⊥
  pub stray_buffer : Holds (world_with (with_buffer (record { number = 2; changes = set_five ∷ [] } ∷ []) setup) (history_with [] (1 ∷ []))) → ⊥
  pub stray_order : Holds (world_with setup (history_with (five_set ∷ saw_nothing ∷ []) (2 ∷ 1 ∷ []))) → ⊥
  pub stray_page : Holds (world_with setup (history_with (five_set ∷ saw_nothing ∷ []) [])) → ⊥
