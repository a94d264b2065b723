-- Runs worked out from the papers: what a pull takes out and what it leaves, by a load and by a session, in the store and in what reads show.
use Rattle.std.specs.Prelude.{◌≡◌, false, true, replicate, negsuc, pos, ℤ}
use mathlib.Core.List.{List, [], ◌++◌, ◌∷◌, map}
use Rattle.rules.specs.Lists.{any}
use Rattle.rules.specs.Limits.{lowest, highest}
use Rattle.rules.specs.Refusals.{wrong_kind}
use Rattle.rules.specs.Values.{Place, absent, number, list}
use Rattle.rules.specs.Changes.{set, unset, inc, add, push, pull, Update, becomes, fails, member, change}
use Rattle.rules.specs.Tables.{setup}
use Rattle.rules.specs.Reading.{seen_away}
use Rattle.rules.specs.Calls.{arrives, lost, Call, Begin}
use Rattle.rules.specs.Conditions.{own}
use Rattle.rules.specs.Effects.{stays, carried}
use Rattle.rules.specs.Step.{accepted}
use Rattle.rules.specs.History.{initial, exchanges}
use Rattle.rules.specs.Claims.{shown_to}
use Rattle.rules.specs.Pulls.{Pulls, LoadPulls, ChangePulls, puts, Withdrawn, LacksAll, loads_of, bookings, ReadsLack}
use Rattle.rules.specs.Scenario.{Line, ◌gets◌, yes, says, no, alone, after, Plays, load, pair, read, edit, commit, advance, takes, apply, near, at, origin, elsewhere, map_origin, map_one, edit_origin, pushes}
use Rattle.rules.specs.Histories.{turns_of, world_of}

-- lot 4 is booked twice at the origin, with 7 between; a load that is refused books nothing
abbrev pub booked : List Line
booked =
    load 0 0 push (pos 4) gets yes
    ∷ load 0 0 push (pos 7) gets yes
    ∷ load 0 0 inc (pos 4) gets no 6
    ∷ load 0 0 push (pos 4) gets yes
    ∷ map_origin gets yes
    ∷ []

-- session 1 caches the origin, pulls 4 and sees what it left
abbrev pub pulled : List Line
pulled = booked ++ (Begin gets says 1 ∷ read 1 0 gets says 1 ∷ edit_origin 1 pull (pos 4) gets says 1 ∷ read 1 0 gets says 2 ∷ [])

-- it commits, and session 2 begins
abbrev pub recalled : List Line
recalled = pulled ++ (commit 1 gets says 1 ∷ Begin gets says 2 ∷ [])

-- and books more
abbrev pub busy : List Line
busy = recalled ++ (edit_origin 2 push (pos 5) gets says 1 ∷ edit 2 0 1 add (pos 4) gets says 2 ∷ [])

-- the pull is carried: its reply is lost, and a second worker finds it done before
abbrev pub carried_twice : List Line
carried_twice =
    recalled
    ++ (takes 0 gets says 1 ∷ apply 0 lost gets says 0 ∷ advance 300 gets says 300 ∷ takes 1 gets says 1 ∷ apply 1 arrives gets says 2 ∷ [])

-- the words after a read that follows a run: kind, count and values of one place, and 29 or 30 words that are 0
abbrev pub shown : List Line → Call → List ℤ
shown ls c = (alone c (after ls setup)).words

abbrev pub seven_alone : List ℤ
seven_alone = pos 2 ∷ pos 1 ∷ pos 7 ∷ replicate 29 (pos 0)

abbrev pub no_members : List ℤ
no_members = pos 2 ∷ pos 0 ∷ replicate 30 (pos 0)

abbrev pub four : List ℤ → List ℤ
four l = pos 4 ∷ l

pub record PullRuns : Type 0 where
  -- six equal members: an empty list is left, which is not absent
  pub all_six : change pull (pos 4) (list (four (four (four (four (four (four []))))))) ≡ becomes (list [])
  -- first, between others, last: the others stay in their order, and as often as they were there
  pub apart : change pull (pos 4) (list (four (pos 7 ∷ four (pos 7 ∷ pos 5 ∷ four [])))) ≡ becomes (list (pos 7 ∷ pos 7 ∷ pos 5 ∷ []))
  -- side by side, not first and not last
  pub together : change pull (pos 4) (list (pos 5 ∷ four (four (pos 6 ∷ [])))) ≡ becomes (list (pos 5 ∷ pos 6 ∷ []))
  -- no member, and no members
  pub none : (change pull (pos 9) (list (four (pos 7 ∷ four []))) ≡ becomes (list (four (pos 7 ∷ four []))))
      × (change pull (pos 9) (list []) ≡ becomes (list []))
  -- equal in sign too; the ends of 32 bits
  pub signs : (change pull (negsuc 3) (list (four (negsuc 3 ∷ four (negsuc 3 ∷ [])))) ≡ becomes (list (four (four []))))
      × (change pull lowest (list (lowest ∷ highest ∷ lowest ∷ [])) ≡ becomes (list (highest ∷ [])))
  -- absent stays absent, and a number refuses
  pub no_list : (change pull (pos 4) absent ≡ becomes absent) × (change pull (pos 4) (number (pos 4)) ≡ fails wrong_kind)
  -- a load's pull: six go, there is room for six again, and the empty list is no number
  pub by_load : Plays setup
      (pushes 0 0 6
      ++ (load 0 0 push (pos 1) gets no 7 ∷ load 0 0 pull (pos 1) gets yes ∷ load 0 0 inc (pos 1) gets no 6 ∷ [])
      ++ pushes 0 0 6
      ++ (load 0 0 push (pos 1) gets no 7 ∷ []))
  pub loaded_store : (after (booked ++ (load 0 0 pull (pos 4) gets yes ∷ [])) setup).store origin ≡ list (pos 7 ∷ [])
  -- the session's own read; another's of the key cached before the pull; the same while the store is away
  pub seen_at_once : Plays setup pulled × (shown (booked ++ (Begin gets says 1 ∷ edit_origin 1 pull (pos 4) gets says 1 ∷ [])) (read 1 0) ≡ seven_alone)
  pub seen_cached : Plays setup (recalled ++ (read 2 0 gets says 0 ∷ [])) × (shown recalled (read 2 0) ≡ seven_alone)
      × (shown (recalled ++ (near false gets yes ∷ [])) (read 2 0) ≡ seven_alone)
  -- and of a key that was not cached: from the buffer, and once it was carried, from the store, which has it once
  pub seen_buffered : shown (booked ++ (map_one 1 (pair 0 0) gets yes ∷ Begin gets says 1 ∷ edit_origin 1 pull (pos 4) gets says 1 ∷ commit 1 gets says 1 ∷ Begin gets says 2 ∷ [])) (read 2 1)
      ≡ seven_alone
  pub stored : Plays setup carried_twice × ((after recalled setup).store origin ≡ list (four (pos 7 ∷ four [])))
      × ((after carried_twice setup).store origin ≡ list (pos 7 ∷ []))
  -- the other lot too: the list is empty, and is shown as a list
  pub emptied : shown (recalled ++ (edit_origin 2 pull (pos 7) gets says 1 ∷ [])) (read 2 0) ≡ no_members
  -- put back, it stands last and once
  pub put_back : (after (booked ++ (load 0 0 pull (pos 4) gets yes ∷ load 0 0 add (pos 4) gets yes ∷ load 0 0 add (pos 4) gets yes ∷ [])) setup).store origin
      ≡ list (pos 7 ∷ four [])
  -- what puts 4 at the origin, and what does not
  pub puts_it : map (puts origin (pos 4)) (at origin add (pos 4) ∷ at origin push (pos 4) ∷ []) ≡ true ∷ true ∷ []
  pub puts_not : map (puts origin (pos 4))
      (at origin add (pos 5) ∷ at origin push (negsuc 3) ∷ at elsewhere add (pos 4) ∷ at (record { document = 1; field = 0 }) push (pos 4)
      ∷ at origin set (pos 4) ∷ at origin unset (pos 0) ∷ at origin inc (pos 4) ∷ at origin pull (pos 4) ∷ [])
      ≡ false ∷ false ∷ false ∷ false ∷ false ∷ false ∷ false ∷ false ∷ []
  -- the accepted loads, in their order
  pub loads : loads_of (exchanges (turns_of recalled) initial.plant) ≡ at origin push (pos 4) ∷ at origin push (pos 7) ∷ at origin push (pos 4) ∷ []
  -- a pull withdraws, whatever came before it and whatever else came after
  pub withdrawn : (q : Place) (v : ℤ) (before later : List Update) → any (puts q v) later ≡ false → Withdrawn q v (before ++ (at q pull v ∷ later))
  -- what session 2 sees stands on the loads, session 1's page and its own
  pub stands : bookings (exchanges (turns_of busy) initial.plant) (world_of busy).history (pos 2)
      ≡ at origin push (pos 4) ∷ at origin push (pos 7) ∷ at origin push (pos 4) ∷ at origin pull (pos 4) ∷ at origin push (pos 5) ∷ at elsewhere add (pos 4) ∷ []
  -- a stock in which 4 stands first, or last, is not without it
  pub stray_first : LacksAll (at origin pull (pos 4) ∷ []) (λ q. list (four (pos 7 ∷ []))) → ⊥
  pub stray_last : LacksAll (at origin pull (pos 4) ∷ []) (λ q. list (pos 7 ∷ four [])) → ⊥
  -- of 4, 7, 4 a pull leaves no 4, of 4 alone not absent, of absent no list, and of a number nothing
  pub stray_pull : Pulls (pos 4) (list (four (pos 7 ∷ four []))) (becomes (list (pos 7 ∷ four []))) → ⊥
  pub stray_absent : Pulls (pos 4) (list (four [])) (becomes absent) → ⊥
  pub stray_begun : Pulls (pos 4) absent (becomes (list [])) → ⊥
  pub stray_number : Pulls (pos 4) (number (pos 4)) (becomes absent) → ⊥
  -- what the claims say of these runs
  pub of_load : LoadPulls → Pulls (pos 4) (list (four (pos 7 ∷ four []))) (becomes (list (pos 7 ∷ [])))
  pub of_change : ChangePulls → Pulls (pos 4) (list (four (pos 7 ∷ four []))) (becomes (list (pos 7 ∷ [])))
  pub of_read : ReadsLack → LacksAll (bookings (exchanges (turns_of busy) initial.plant) (world_of busy).history (pos 2)) (shown_to (world_of busy).history (pos 2))
  -- the cached key shows what the pull left, and it is found without the store
  pub cached : ((after recalled setup).cache ≡ record { key = 0; fields = list (pos 7 ∷ []) ∷ [] } ∷ [])
      × (seen_away (after pulled setup).keys (after pulled setup).cache (after pulled setup).buffer (own (pos 1) (after pulled setup)) origin ≡ list (pos 7 ∷ []))
