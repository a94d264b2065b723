-- More runs worked out from paper 01: each refusal beside calls that are accepted, leases, marks, words, and the workers' calls.
use Rattle.std.specs.Prelude.{◌≡◌, false, true, List, [], ◌++◌, ◌∷◌, map, replicate, negsuc, pos}
use Rattle.std.proofs.Math.Option.{none, some}
use Rattle.rules.specs.Lists.{span}
use Rattle.rules.specs.Limits.{document_count, field_count, key_count, place_limit, member_limit, cache_limit, slot_limit, change_limit, buffer_limit, row_limit, sweep_limit, worker_count, words_per_field, lease_ticks, session_ticks, advance_limit, last_tick, first_session, last_session, highest}
use Rattle.rules.specs.Refusals.{refusal_number, out_of_range, no_slot, was_doomed, exclusive_elsewhere, changes_full, wrong_kind, seventh_member, sum_too_large, key_undefined, slots_full, numbers_spent, session_begun, key_defined, bad_places, buffer_full, queue_leased, wrong_hand, nothing_buffered, rows_full, store_away, clock_end, few_words, bad_line}
use Rattle.rules.specs.Values.{absent, number, list, show}
use Rattle.rules.specs.Changes.{set, unset, inc, add, push, pull, becomes, member, change, meets}
use Rattle.rules.specs.Tables.{documents, leased, setup, removable, with_rows, with_clock, with_next}
use Rattle.rules.specs.Calls.{arrives, lost, unreached, Load, Map, Begin, Read, Change, Commit, Abandon, Advance, Take, Apply, Delete, Cut, Sweep, Store, Report, call_number, fine}
use Rattle.rules.specs.Effects.{begun, grant, committed, lapses, lapse, stays, carried, applied, deleted, cut, swept}
use Rattle.rules.specs.Step.{accepted, step}
use Rattle.rules.specs.Kept.{kept}
use Rattle.rules.specs.Scenario.{Line, ◌gets◌, yes, says, no, line_of, after, Plays, load, pair, zeros, map_one, map_two, read, edit, commit, report, advance, takes, apply, delete, cuts, near, origin, map_origin, edit_origin, setting, begins, sets_by, pushes, hand_with_rows, applied1, deleted1, slow1, latter_first, overtaken}
use Rattle.rules.specs.Edges.{changing}

-- session 1 in worker 3's hand, applied without a reply, and deleted by worker 0
abbrev pub last_hand3 : List Line
last_hand3 =
    setting 1 1
    ++ (takes 3 gets says 1
    ∷ apply 3 lost gets says 0
    ∷ advance 300 gets says 300
    ∷ takes 0 gets says 1
    ∷ apply 0 arrives gets says 2
    ∷ delete 0 gets says 1
    ∷ [])

-- 100, inc -25 by session 1, which is applied and still buffered
abbrev pub carried_once : List Line
carried_once =
    load 0 0 set (pos 100) gets yes
    ∷ map_origin gets yes
    ∷ Begin gets says 1
    ∷ edit_origin 1 inc (negsuc 24) gets says 1
    ∷ commit 1 gets says 1
    ∷ takes 0 gets says 1
    ∷ apply 0 lost gets says 0
    ∷ []

-- inc 1 by session 1 and inc 10 by session 2, both buffered, and the first applied
abbrev pub two_buffered : List Line
two_buffered =
    map_origin gets yes
    ∷ Begin gets says 1
    ∷ edit_origin 1 inc (pos 1) gets says 1
    ∷ commit 1 gets says 1
    ∷ Begin gets says 2
    ∷ edit_origin 2 inc (pos 10) gets says 1
    ∷ commit 2 gets says 2
    ∷ takes 0 gets says 1
    ∷ apply 0 arrives gets says 1
    ∷ []

pub record Runs : Type 0 where
  -- 1: documents, fields, changes and their values
  pub range : Plays setup
      (Load (negsuc 0) (pos 0) (pos 1) (pos 5) gets no 1
      ∷ load 64 0 set (pos 5) gets no 1
      ∷ load 0 4 set (pos 5) gets no 1
      ∷ Load (pos 0) (pos 0) (pos 0) (pos 5) gets no 1
      ∷ Load (pos 0) (pos 0) (pos 7) (pos 5) gets no 1
      ∷ load 0 0 unset (pos 5) gets no 1
      ∷ load 0 0 set (pos 2147483648) gets no 1
      ∷ load 0 0 set (negsuc 2147483648) gets no 1
      ∷ load 63 3 set (negsuc 2147483647) gets yes
      ∷ load 63 3 set (pos 2147483647) gets yes
      ∷ edit 1 64 0 set (pos 1) gets no 1
      ∷ [])
  -- 1: keys, ticks, workers, fates, store marks
  pub range' : Plays setup
      (map_one 32 zeros gets no 1
      ∷ map_two 31 zeros (pair 63 3) gets yes
      ∷ Map (pos 0) (pos 9) (record { first = zeros; second = zeros; third = zeros; fourth = pair 64 0 }) gets no 1
      ∷ read 1 32 gets no 1
      ∷ Advance (negsuc 0) gets no 1
      ∷ advance 65536 gets no 1
      ∷ advance 65535 gets says 65535
      ∷ takes 4 gets no 1
      ∷ Take (negsuc 0) gets no 1
      ∷ cuts 4 gets no 1
      ∷ cuts 3 gets yes
      ∷ delete 4 gets no 1
      ∷ apply 4 arrives gets no 1
      ∷ Apply (pos 0) (pos 3) gets no 1
      ∷ Store (pos 2) gets no 1
      ∷ Store (negsuc 0) gets no 1
      ∷ Store (pos 1) gets yes
      ∷ [])
  -- 2: numbers that no session with a slot has, in no range of 1
  pub no_session : Plays setup
      (commit 0 gets no 2
      ∷ Commit (negsuc 0) gets no 2
      ∷ report 4294967296 gets no 2
      ∷ Begin gets says 1
      ∷ Report (negsuc 0) gets no 2
      ∷ report 1 gets (0 ∷ 0 ∷ 0 ∷ 0 ∷ [])
      ∷ Abandon (pos 1) gets yes
      ∷ report 1 gets no 2
      ∷ [])
  -- 3: a session lapses at 1,000; its slot is freed by its next call
  pub lapsed : Plays setup
      (Begin gets says 1
      ∷ advance 999 gets says 999
      ∷ report 1 gets (0 ∷ 0 ∷ 0 ∷ 0 ∷ [])
      ∷ advance 1 gets says 1000
      ∷ report 1 gets no 3
      ∷ report 1 gets no 2
      ∷ [])
  -- 4: exclusive over another's exclusive; another document is free
  pub hindered : Plays setup
      (Begin gets says 1
      ∷ Begin gets says 2
      ∷ edit 1 5 0 set (pos 1) gets says 1
      ∷ edit 2 6 0 set (pos 1) gets says 1
      ∷ edit 2 5 1 set (pos 1) gets no 4
      ∷ report 2 gets no 2
      ∷ report 1 gets (0 ∷ 0 ∷ 1 ∷ 1 ∷ [])
      ∷ [])
  -- 5: eight changes
  pub nine : Plays setup (Begin gets says 1 ∷ sets_by 1 8 0 ++ (edit_origin 1 set (pos 0) gets no 5 ∷ []))
  -- 6 and 8: wrong kind, a sum outside 32 bits; the session goes on
  pub unfit : Plays setup
      (load 0 0 set (pos 7) gets yes
      ∷ load 0 0 push (pos 1) gets no 6
      ∷ load 0 1 add (pos 1) gets yes
      ∷ load 0 1 inc (pos 1) gets no 6
      ∷ load 0 2 set highest gets yes
      ∷ load 0 2 inc (pos 1) gets no 8
      ∷ Begin gets says 1
      ∷ edit 1 0 0 pull (pos 1) gets no 6
      ∷ edit 1 0 1 inc (pos 1) gets no 6
      ∷ edit 1 0 2 inc (pos 1) gets no 8
      ∷ edit 1 0 2 inc (negsuc 0) gets says 1
      ∷ edit 1 0 2 inc (pos 1) gets says 2
      ∷ [])
  -- 7: a seventh member, of push and of add
  pub seven : Plays setup
      (pushes 0 0 6
      ++ (load 0 0 push (pos 1) gets no 7
      ∷ load 0 0 add (pos 1) gets yes
      ∷ load 0 0 add (pos 2) gets no 7
      ∷ load 0 0 pull (pos 1) gets yes
      ∷ load 0 0 add (pos 2) gets yes
      ∷ []))
  -- refusals 6, 7, 8 and 20 take no lease and doom nobody
  pub unfit_spares : Plays setup
      (load 0 0 set (pos 7) gets yes
      ∷ map_origin gets yes
      ∷ Begin gets says 1
      ∷ Begin gets says 2
      ∷ read 1 0 gets says 1
      ∷ edit_origin 2 push (pos 1) gets no 6
      ∷ report 2 gets (0 ∷ 0 ∷ 0 ∷ 0 ∷ [])
      ∷ report 1 gets (0 ∷ 1 ∷ 0 ∷ 0 ∷ [])
      ∷ [])
  -- 9: key undefined
  pub undefined : Plays setup (Begin gets says 1 ∷ read 1 0 gets no 9 ∷ [])
  -- 22: too few words lent
  pub words : (line_of (step (read 1 0) (replicate 7 (pos 0)) (after (map_origin gets yes ∷ Begin gets says 1 ∷ []) setup)).answer ≡ no 22)
      × ((step (read 1 0) (replicate 8 (pos 0)) (after (map_origin gets yes ∷ Begin gets says 1 ∷ []) setup)).answer ≡ fine (1 ∷ []))
  -- 10: eight sessions, none doomed; with all doomed the lowest gives its slot, and is gone
  pub slots : Plays setup
      (begins 8 0
      ++ (Begin gets no 10
      ∷ advance 1000 gets says 1000
      ∷ Begin gets says 9
      ∷ report 1 gets no 2
      ∷ report 2 gets no 3
      ∷ []))
  -- 11: session numbers end at 4,294,967,295
  pub spent : Plays (with_next last_session setup) (Begin gets says 4294967295 ∷ Begin gets no 11 ∷ [])
  -- 12, 13, 14: set-up
  pub set_up : Plays setup
      (map_origin gets yes
      ∷ map_origin gets no 13
      ∷ Map (pos 1) (pos 0) (record { first = zeros; second = zeros; third = zeros; fourth = zeros }) gets no 14
      ∷ Map (pos 1) (pos 5) (record { first = pair 1 1; second = pair 1 2; third = pair 1 3; fourth = pair 2 1 }) gets no 14
      ∷ Map (pos 1) (negsuc 0) (record { first = zeros; second = zeros; third = zeros; fourth = zeros }) gets no 14
      ∷ map_two 1 (pair 1 1) (pair 1 1) gets no 14
      ∷ Map (pos 1) (pos 1) (record { first = pair 1 1; second = pair 0 1; third = zeros; fourth = zeros }) gets no 14
      ∷ map_two 1 (pair 1 1) (pair 1 2) gets yes
      ∷ Begin gets says 1
      ∷ map_one 2 zeros gets no 12
      ∷ load 0 0 set (pos 1) gets no 12
      ∷ [])
  -- 16, 17, 18: a queue lease, hands and replies
  pub workers : Plays setup
      (takes 0 gets no 18
      ∷ setting 1 1
      ++ (apply 0 arrives gets no 17
      ∷ takes 0 gets says 1
      ∷ takes 0 gets no 17
      ∷ takes 1 gets no 16
      ∷ delete 0 gets no 17
      ∷ apply 0 unreached gets says 0
      ∷ delete 0 gets no 17
      ∷ apply 0 arrives gets says 1
      ∷ apply 0 arrives gets no 17
      ∷ delete 0 gets says 1
      ∷ delete 0 gets no 17
      ∷ takes 1 gets no 18
      ∷ []))
  -- the first, slow worker comes back to a session that is applied and gone
  pub slow : Plays setup (slow1 ++ (apply 0 arrives gets says 2 ∷ delete 0 gets says 0 ∷ takes 2 gets no 18 ∷ []))
  -- a lease in nobody's name refuses every take until it lapses, also the cut worker's
  pub nobodys : Plays setup
      (setting 1 1
      ++ (takes 0 gets says 1
      ∷ cuts 0 gets yes
      ∷ takes 0 gets no 16
      ∷ advance 299 gets says 299
      ∷ takes 1 gets no 16
      ∷ advance 1 gets says 300
      ∷ takes 1 gets says 1
      ∷ []))
  -- the four calls, oldest session first
  pub drained : Plays setup
      (setting 1 1
      ++ setting 2 2
      ++ (takes 3 gets says 1
      ∷ Sweep gets says 0
      ∷ apply 3 arrives gets says 1
      ∷ delete 3 gets says 1
      ∷ takes 3 gets says 2
      ∷ []))
  -- a row may be swept once its session is neither buffered nor in a hand
  pub sweeping : (removable (after applied1 setup) 1 ≡ false)
      × (removable (after slow1 setup) 1 ≡ false)
      × (removable (after deleted1 setup) 1 ≡ true)
  -- 19: 48 rows and this session has none; with fates 1 and 2 that is no word
  pub rows : Plays (hand_with_rows 2 48) (apply 0 unreached gets says 0 ∷ apply 0 lost gets says 0 ∷ apply 0 arrives gets no 19 ∷ [])
  pub rows_left : Plays (hand_with_rows 2 47) (apply 0 arrives gets says 1 ∷ [])
  pub row_there : Plays (hand_with_rows 1 48) (apply 0 arrives gets says 2 ∷ [])
  -- 20: the store away: set and unset need no known field; an own or buffered set, or a cached key, makes one
  pub away : Plays setup
      (near false gets yes
      ∷ load 0 0 set (pos 1) gets no 20
      ∷ Sweep gets no 20
      ∷ map_origin gets yes
      ∷ map_one 1 (pair 0 1) gets yes
      ∷ Begin gets says 1
      ∷ edit_origin 1 inc (pos 1) gets no 20
      ∷ read 1 0 gets no 20
      ∷ edit_origin 1 set (pos 4) gets says 1
      ∷ edit_origin 1 inc (pos 1) gets says 2
      ∷ read 1 0 gets says 2
      ∷ read 1 1 gets no 20
      ∷ commit 1 gets says 1
      ∷ takes 0 gets says 1
      ∷ apply 0 arrives gets no 20
      ∷ Begin gets says 2
      ∷ read 2 0 gets says 1
      ∷ read 2 0 gets says 0
      ∷ report 2 gets (0 ∷ 1 ∷ 0 ∷ 0 ∷ [])
      ∷ [])
  -- 21: the clock ends at 99,999,999,999
  pub clock : Plays (with_clock 99999999998 setup) (advance 1 gets says 99999999999 ∷ advance 1 gets no 21 ∷ advance 0 gets says 99999999999 ∷ [])
  -- marks: worked out and cached, cached, own change; a commit keeps the key cached, a lapse drops it
  pub marks : Plays setup
      (map_origin gets yes
      ∷ Begin gets says 1
      ∷ read 1 0 gets says 1
      ∷ read 1 0 gets says 0
      ∷ edit_origin 1 set (pos 4) gets says 1
      ∷ read 1 0 gets says 2
      ∷ commit 1 gets says 1
      ∷ Begin gets says 2
      ∷ read 2 0 gets says 0
      ∷ advance 300 gets says 300
      ∷ Begin gets says 3
      ∷ read 3 0 gets says 1
      ∷ [])
  -- a held lease keeps its grant; shared to exclusive is a fresh one
  pub grants : Plays setup
      (map_origin gets yes
      ∷ Begin gets says 1
      ∷ read 1 0 gets says 1
      ∷ advance 200 gets says 200
      ∷ read 1 0 gets says 0
      ∷ edit_origin 1 set (pos 4) gets says 1
      ∷ advance 299 gets says 499
      ∷ edit_origin 1 set (pos 5) gets says 2
      ∷ report 1 gets (0 ∷ 0 ∷ 1 ∷ 2 ∷ [])
      ∷ advance 1 gets says 500
      ∷ report 1 gets no 3
      ∷ [])
  -- eight words for each place, in the key's order, with the buffer and the own changes; the words past these stay
  pub shown : (step (read 2 0) (replicate 17 (pos 9)) (after
      (load 1 0 push (pos 4) gets yes
      ∷ load 1 0 push (pos 7) gets yes
      ∷ map_two 0 (pair 1 0) zeros gets yes
      ∷ Begin gets says 1
      ∷ edit 1 1 0 push (negsuc 2) gets says 1
      ∷ commit 1 gets says 1
      ∷ Begin gets says 2
      ∷ edit 2 0 0 inc (pos 3) gets says 1
      ∷ []) setup)).words
      ≡ pos 2 ∷ pos 3 ∷ pos 4 ∷ pos 7 ∷ negsuc 2 ∷ pos 0 ∷ pos 0 ∷ pos 0
      ∷ pos 1 ∷ pos 1 ∷ pos 3 ∷ pos 0 ∷ pos 0 ∷ pos 0 ∷ pos 0 ∷ pos 0
      ∷ pos 9 ∷ []
  -- a refused call but for 3 and 4 leaves the session
  pub full_spares : Plays setup
      (changing 32 0
      ++ (Begin gets says 33
      ∷ edit_origin 33 set (pos 5) gets says 1
      ∷ commit 33 gets no 15
      ∷ report 33 gets (0 ∷ 0 ∷ 1 ∷ 1 ∷ [])
      ∷ []))
  -- a doomed session's next call is 3, whichever of the five, and the one after it 2
  pub doomed_calls : Plays setup
      (map_origin gets yes
      ∷ begins 5 0
      ++ (advance 1000 gets says 1000
      ∷ read 1 0 gets no 3
      ∷ read 1 0 gets no 2
      ∷ edit_origin 2 set (pos 1) gets no 3
      ∷ edit_origin 2 set (pos 1) gets no 2
      ∷ commit 3 gets no 3
      ∷ commit 3 gets no 2
      ∷ Abandon (pos 4) gets no 3
      ∷ Abandon (pos 4) gets no 2
      ∷ report 5 gets no 3
      ∷ report 5 gets no 2
      ∷ []))
  -- while a slot is free a doomed session keeps its own
  pub slot_kept : Plays setup (Begin gets says 1 ∷ advance 1000 gets says 1000 ∷ Begin gets says 2 ∷ report 1 gets no 3 ∷ [])
  -- 20: a key of which one place is unknown; push and unset of an unknown field; every fate of apply, but not delete
  pub half_known : Plays setup
      (map_two 0 zeros (pair 0 1) gets yes
      ∷ near false gets yes
      ∷ Begin gets says 1
      ∷ edit_origin 1 set (pos 4) gets says 1
      ∷ read 1 0 gets no 20
      ∷ edit 1 0 1 push (pos 4) gets no 20
      ∷ edit 1 0 1 unset (pos 0) gets says 2
      ∷ read 1 0 gets says 2
      ∷ [])
  pub fates_away : Plays setup
      (setting 1 1
      ++ (takes 0 gets says 1
      ∷ near false gets yes
      ∷ apply 0 unreached gets no 20
      ∷ apply 0 lost gets no 20
      ∷ near true gets yes
      ∷ apply 0 arrives gets says 1
      ∷ near false gets yes
      ∷ delete 0 gets says 1
      ∷ []))
  -- a read of a document held shared leaves its grant
  pub read_again : Plays setup
      (map_origin gets yes
      ∷ Begin gets says 1
      ∷ read 1 0 gets says 1
      ∷ advance 200 gets says 200
      ∷ read 1 0 gets says 0
      ∷ advance 100 gets says 300
      ∷ report 1 gets no 3
      ∷ [])
  -- delete ends only a lease in its own name; 16 comes before 18
  pub other_lease : Plays setup (overtaken ++ (takes 2 gets no 16 ∷ []))
  -- a lapse drops the keys of the documents held, shared or exclusively, and no other
  pub lapse_drops : Plays setup
      (map_one 0 (pair 0 0) gets yes
      ∷ map_one 1 (pair 1 0) gets yes
      ∷ Begin gets says 1
      ∷ read 1 0 gets says 1
      ∷ edit_origin 1 set (pos 4) gets says 1
      ∷ advance 200 gets says 200
      ∷ Begin gets says 2
      ∷ read 2 1 gets says 1
      ∷ advance 100 gets says 300
      ∷ read 2 1 gets says 0
      ∷ read 2 0 gets says 1
      ∷ [])
  -- mark 2 is by exact place
  pub mark_by_place : Plays setup
      (map_origin gets yes
      ∷ Begin gets says 1
      ∷ edit 1 0 1 set (pos 4) gets says 1
      ∷ read 1 0 gets says 1
      ∷ read 1 0 gets says 0
      ∷ [])
  -- the six changes by their numbers, and what they leave
  pub six : (step (read 1 0) (replicate 32 (pos 9)) (after
      (Load (pos 0) (pos 0) (pos 1) (pos 5) gets yes
      ∷ Load (pos 0) (pos 0) (pos 3) (pos 2) gets yes
      ∷ Load (pos 0) (pos 1) (pos 1) (pos 5) gets yes
      ∷ Load (pos 0) (pos 1) (pos 2) (pos 0) gets yes
      ∷ Load (pos 0) (pos 2) (pos 4) (pos 5) gets yes
      ∷ Load (pos 0) (pos 2) (pos 4) (pos 5) gets yes
      ∷ Load (pos 0) (pos 2) (pos 5) (pos 6) gets yes
      ∷ Load (pos 0) (pos 2) (pos 5) (pos 6) gets yes
      ∷ Load (pos 0) (pos 3) (pos 6) (pos 5) gets yes
      ∷ Map (pos 0) (pos 4) (record { first = pair 0 0; second = pair 0 1; third = pair 0 2; fourth = pair 0 3 }) gets yes
      ∷ Begin gets says 1
      ∷ []) setup)).words
      ≡ pos 1 ∷ pos 1 ∷ pos 7 ∷ pos 0 ∷ pos 0 ∷ pos 0 ∷ pos 0 ∷ pos 0
      ∷ pos 0 ∷ pos 0 ∷ pos 0 ∷ pos 0 ∷ pos 0 ∷ pos 0 ∷ pos 0 ∷ pos 0
      ∷ pos 2 ∷ pos 3 ∷ pos 5 ∷ pos 6 ∷ pos 6 ∷ pos 0 ∷ pos 0 ∷ pos 0
      ∷ pos 0 ∷ pos 0 ∷ pos 0 ∷ pos 0 ∷ pos 0 ∷ pos 0 ∷ pos 0 ∷ pos 0
      ∷ []
  -- pull takes out every equal member wherever it stands; a list without one stays
  pub pulls : (change pull (pos 7) (list (pos 4 ∷ pos 7 ∷ pos 5 ∷ pos 7 ∷ [])) ≡ becomes (list (pos 4 ∷ pos 5 ∷ [])))
      × (change pull (pos 9) (list (pos 4 ∷ pos 7 ∷ [])) ≡ becomes (list (pos 4 ∷ pos 7 ∷ [])))
  -- 14: an unused pair of field 0, a place twice apart, and twice after another
  pub bad_pairs : Plays setup
      (Map (pos 1) (pos 1) (record { first = pair 1 1; second = zeros; third = pair 1 0; fourth = zeros }) gets no 14
      ∷ Map (pos 1) (pos 3) (record { first = pair 1 1; second = pair 1 2; third = pair 1 1; fourth = zeros }) gets no 14
      ∷ Map (pos 1) (pos 3) (record { first = pair 1 1; second = pair 1 2; third = pair 1 2; fourth = zeros }) gets no 14
      ∷ Map (pos 1) (pos 3) (record { first = pair 1 1; second = pair 1 2; third = zeros; fourth = zeros }) gets yes
      ∷ [])
  -- 12: a session has ever begun, open or not
  pub ever_begins : Plays setup (Begin gets says 1 ∷ Abandon (pos 1) gets yes ∷ map_origin gets no 12 ∷ load 0 0 set (pos 1) gets no 12 ∷ [])
  -- of eight sessions the doomed one of lowest number gives its slot; those that are open stay
  pub reused : Plays setup
      (map_origin gets yes
      ∷ begins 8 0
      ++ (read 5 0 gets says 1
      ∷ read 7 0 gets says 0
      ∷ edit_origin 2 set (pos 1) gets says 1
      ∷ Begin gets says 9
      ∷ report 1 gets (0 ∷ 0 ∷ 0 ∷ 0 ∷ [])
      ∷ report 2 gets (0 ∷ 0 ∷ 1 ∷ 1 ∷ [])
      ∷ report 5 gets no 2
      ∷ report 7 gets no 3
      ∷ []))
  -- a report counts every document held
  pub counted : Plays setup
      (map_two 0 (pair 1 0) (pair 2 0) gets yes
      ∷ Begin gets says 1
      ∷ read 1 0 gets says 1
      ∷ edit 1 63 0 set (pos 1) gets says 1
      ∷ edit 1 62 0 set (pos 1) gets says 2
      ∷ edit 1 61 0 set (pos 1) gets says 3
      ∷ edit 1 61 1 set (pos 1) gets says 4
      ∷ report 1 gets (0 ∷ 2 ∷ 3 ∷ 4 ∷ [])
      ∷ [])
  -- a session's life, its leases and the queue lease count from the tick at which they began
  pub later_life : Plays setup
      (advance 500 gets says 500
      ∷ Begin gets says 1
      ∷ advance 999 gets says 1499
      ∷ report 1 gets (0 ∷ 0 ∷ 0 ∷ 0 ∷ [])
      ∷ advance 1 gets says 1500
      ∷ report 1 gets no 3
      ∷ [])
  pub later_leases : Plays setup
      (map_origin gets yes
      ∷ advance 500 gets says 500
      ∷ Begin gets says 1
      ∷ Begin gets says 2
      ∷ read 1 0 gets says 1
      ∷ edit 2 1 0 set (pos 1) gets says 1
      ∷ advance 299 gets says 799
      ∷ report 1 gets (0 ∷ 1 ∷ 0 ∷ 0 ∷ [])
      ∷ report 2 gets (0 ∷ 0 ∷ 1 ∷ 1 ∷ [])
      ∷ advance 1 gets says 800
      ∷ report 1 gets no 3
      ∷ report 2 gets no 3
      ∷ [])
  pub later_queue : Plays setup
      (advance 500 gets says 500
      ∷ setting 1 1
      ++ (takes 0 gets says 1
      ∷ advance 299 gets says 799
      ∷ takes 1 gets no 16
      ∷ advance 1 gets says 800
      ∷ takes 1 gets says 1
      ∷ []))
  -- a read under the session's own exclusive lease leaves its grant
  pub read_exclusive : Plays setup
      (map_origin gets yes
      ∷ Begin gets says 1
      ∷ edit_origin 1 set (pos 4) gets says 1
      ∷ advance 200 gets says 200
      ∷ read 1 0 gets says 2
      ∷ report 1 gets (0 ∷ 0 ∷ 1 ∷ 1 ∷ [])
      ∷ advance 100 gets says 300
      ∷ report 1 gets no 3
      ∷ [])
  -- a lapse drops the keys of every document held, also of those whose own lease is live, and by any of their places
  pub lapse_drops_all : Plays setup
      (map_origin gets yes
      ∷ map_two 1 (pair 1 0) (pair 2 0) gets yes
      ∷ map_one 2 (pair 2 1) gets yes
      ∷ Begin gets says 1
      ∷ read 1 0 gets says 1
      ∷ advance 200 gets says 200
      ∷ Begin gets says 2
      ∷ read 2 1 gets says 1
      ∷ read 1 2 gets says 1
      ∷ advance 100 gets says 300
      ∷ read 2 1 gets says 1
      ∷ read 2 2 gets says 1
      ∷ [])
  pub life_drops : Plays setup
      (map_origin gets yes
      ∷ Begin gets says 1
      ∷ advance 900 gets says 900
      ∷ read 1 0 gets says 1
      ∷ advance 100 gets says 1000
      ∷ Begin gets says 2
      ∷ read 2 0 gets says 1
      ∷ [])
  -- mark 2 by an own change to any place of the key
  pub mark_by_second : Plays setup
      (map_two 0 zeros (pair 1 0) gets yes
      ∷ Begin gets says 1
      ∷ edit 1 1 0 set (pos 4) gets says 1
      ∷ read 1 0 gets says 2
      ∷ read 1 0 gets says 2
      ∷ [])
  -- a cached key alone makes each of its places known, to a read of another key and to a change
  pub cached_known : Plays setup
      (map_two 0 zeros (pair 0 1) gets yes
      ∷ map_one 1 (pair 0 1) gets yes
      ∷ Begin gets says 1
      ∷ read 1 0 gets says 1
      ∷ near false gets yes
      ∷ read 1 1 gets says 1
      ∷ read 1 0 gets says 0
      ∷ edit 1 0 1 inc (pos 5) gets says 1
      ∷ edit_origin 1 inc (pos 5) gets says 2
      ∷ read 1 0 gets says 2
      ∷ [])
  pub abandon_away : Plays setup (near false gets yes ∷ Begin gets says 1 ∷ Abandon (pos 1) gets yes ∷ [])
  -- a cut of another worker, and ticks that pass, leave a lease in its worker's name: its delete ends it
  pub lease_kept : Plays setup
      (setting 1 1
      ++ setting 2 2
      ++ (takes 0 gets says 1
      ∷ cuts 1 gets yes
      ∷ advance 1 gets says 1
      ∷ apply 0 arrives gets says 1
      ∷ delete 0 gets says 1
      ∷ takes 1 gets says 2
      ∷ []))
  -- 1: negative numbers, of every argument that has a range, and values outside 32 bits of every change but unset
  pub negatives : Plays setup
      (Load (pos 0) (negsuc 0) (pos 1) (pos 5) gets no 1
      ∷ Load (pos 0) (pos 0) (negsuc 0) (pos 5) gets no 1
      ∷ Map (negsuc 0) (pos 1) (record { first = zeros; second = zeros; third = zeros; fourth = zeros }) gets no 1
      ∷ Map (pos 0) (pos 1) (record { first = record { document = negsuc 0; field = pos 0 }; second = zeros; third = zeros; fourth = zeros }) gets no 1
      ∷ Map (pos 0) (pos 1) (record { first = record { document = pos 0; field = negsuc 0 }; second = zeros; third = zeros; fourth = zeros }) gets no 1
      ∷ Read (pos 1) (negsuc 0) gets no 1
      ∷ Change (pos 1) (negsuc 0) (pos 0) (pos 1) (pos 5) gets no 1
      ∷ Change (pos 1) (pos 0) (negsuc 0) (pos 1) (pos 5) gets no 1
      ∷ Apply (negsuc 0) (pos 0) gets no 1
      ∷ Apply (pos 0) (negsuc 0) gets no 1
      ∷ Delete (negsuc 0) gets no 1
      ∷ Cut (negsuc 0) gets no 1
      ∷ load 0 0 inc (pos 2147483648) gets no 1
      ∷ load 0 0 add (negsuc 2147483648) gets no 1
      ∷ load 0 0 push (pos 2147483648) gets no 1
      ∷ load 0 0 pull (pos 2147483648) gets no 1
      ∷ load 0 0 pull (negsuc 2147483648) gets no 1
      ∷ load 0 0 pull (negsuc 2147483647) gets yes
      ∷ [])
  -- 2: a number is not cut to 32 bits
  pub wide_session : Plays setup (Begin gets says 1 ∷ report 4294967297 gets no 2 ∷ Abandon (pos 4294967297) gets no 2 ∷ report 1 gets (0 ∷ 0 ∷ 0 ∷ 0 ∷ []) ∷ [])
  -- 6: an add meets a number
  pub add_to_number : Plays setup (load 0 0 set (pos 7) gets yes ∷ load 0 0 add (pos 1) gets no 6 ∷ Begin gets says 1 ∷ edit_origin 1 add (pos 1) gets no 6 ∷ [])
  -- a list that has become empty is shown as a list
  pub empty_shown : show (list []) ≡ pos 2 ∷ pos 0 ∷ pos 0 ∷ pos 0 ∷ pos 0 ∷ pos 0 ∷ pos 0 ∷ pos 0 ∷ []
  -- sessions that lapse at once: the keys of each one's documents are dropped
  pub lapse_together : Plays setup
      (map_one 0 (pair 0 0) gets yes
      ∷ map_one 1 (pair 1 0) gets yes
      ∷ begins 2 0
      ++ (read 1 0 gets says 1
      ∷ read 2 1 gets says 1
      ∷ advance 300 gets says 300
      ∷ Begin gets says 3
      ∷ read 3 0 gets says 1
      ∷ read 3 1 gets says 1
      ∷ []))
  -- a delete ends a lease in its own name also where the session is already gone
  pub gone_lease : Plays setup (overtaken ++ (apply 0 arrives gets says 2 ∷ delete 0 gets says 0 ∷ takes 2 gets no 18 ∷ []))
  -- mark 2 by any of the own changes, the first, one between or the last
  pub mark_by_any : Plays setup
      (map_one 0 (pair 0 0) gets yes
      ∷ map_one 1 (pair 1 0) gets yes
      ∷ map_one 2 (pair 2 0) gets yes
      ∷ Begin gets says 1
      ∷ edit 1 0 0 set (pos 4) gets says 1
      ∷ edit 1 1 0 set (pos 4) gets says 2
      ∷ edit 1 2 0 set (pos 4) gets says 3
      ∷ read 1 0 gets says 2
      ∷ read 1 1 gets says 2
      ∷ read 1 2 gets says 2
      ∷ [])
  -- known by any buffered session: an unset of one with a row, and a set of a later one
  pub buffered_known : Plays setup
      (map_one 0 (pair 0 0) gets yes
      ∷ map_one 1 (pair 1 0) gets yes
      ∷ Begin gets says 1
      ∷ edit_origin 1 unset (pos 0) gets says 1
      ∷ commit 1 gets says 1
      ∷ Begin gets says 2
      ∷ edit 2 1 0 set (pos 4) gets says 1
      ∷ commit 2 gets says 2
      ∷ takes 0 gets says 1
      ∷ apply 0 lost gets says 0
      ∷ near false gets yes
      ∷ Begin gets says 3
      ∷ read 3 0 gets says 1
      ∷ read 3 1 gets says 1
      ∷ [])
  -- nor may a row go whose session is buffered no longer and in a hand that has had its reply
  pub replied_hand : removable (after (overtaken ++ (apply 0 arrives gets says 2 ∷ [])) setup) 1 ≡ false
  -- a delete leaves a lease that runs on in nobody's name
  pub nobodys_stays : Plays setup
      (setting 1 1
      ++ (takes 0 gets says 1
      ∷ apply 0 arrives gets says 1
      ∷ advance 300 gets says 300
      ∷ takes 1 gets says 1
      ∷ cuts 1 gets yes
      ∷ delete 0 gets says 1
      ∷ takes 2 gets no 16
      ∷ []))
  -- a cut leaves its own lease in nobody's name and another's as it is, though no answer tells the name
  pub nameless : ((after (setting 1 1 ++ (takes 0 gets says 1 ∷ cuts 0 gets yes ∷ [])) setup).queue ≡ leased none 0)
      × ((after (setting 1 1 ++ (takes 0 gets says 1 ∷ cuts 1 gets yes ∷ [])) setup).queue ≡ leased (some 0) 0)
  -- a list of six shows them all
  pub six_shown : show (list (pos 1 ∷ pos 2 ∷ pos 3 ∷ pos 4 ∷ pos 5 ∷ pos 6 ∷ [])) ≡ pos 2 ∷ pos 6 ∷ pos 1 ∷ pos 2 ∷ pos 3 ∷ pos 4 ∷ pos 5 ∷ pos 6 ∷ []
  -- every cached key makes its places known
  pub every_cached : Plays setup
      (map_one 0 (pair 0 0) gets yes
      ∷ map_one 1 (pair 1 0) gets yes
      ∷ map_one 2 (pair 1 0) gets yes
      ∷ Begin gets says 1
      ∷ read 1 0 gets says 1
      ∷ read 1 1 gets says 1
      ∷ near false gets yes
      ∷ read 1 1 gets says 0
      ∷ read 1 0 gets says 0
      ∷ read 1 2 gets says 1
      ∷ [])
  -- the fates by their numbers
  pub fates : Plays setup (setting 1 1 ++ (takes 0 gets says 1 ∷ Apply (pos 0) (pos 2) gets says 0 ∷ Apply (pos 0) (pos 1) gets says 0 ∷ Apply (pos 0) (pos 0) gets says 2 ∷ []))
  -- a member is equal in sign too; set and unset of a list; an add and a push of an absent field
  pub signs : (change add (negsuc 0) (list (pos 0 ∷ [])) ≡ becomes (list (pos 0 ∷ negsuc 0 ∷ [])))
      × (change add (pos 0) (list (negsuc 0 ∷ [])) ≡ becomes (list (negsuc 0 ∷ pos 0 ∷ [])))
      × (change add (negsuc 1) (list (pos 1 ∷ negsuc 1 ∷ [])) ≡ becomes (list (pos 1 ∷ negsuc 1 ∷ [])))
      × (change pull (negsuc 1) (list (pos 1 ∷ negsuc 0 ∷ negsuc 1 ∷ [])) ≡ becomes (list (pos 1 ∷ negsuc 0 ∷ [])))
      × (change pull (negsuc 0) (list (negsuc 1 ∷ negsuc 0 ∷ [])) ≡ becomes (list (negsuc 1 ∷ [])))
  pub replaced : (change set (pos 5) (list (pos 4 ∷ [])) ≡ becomes (number (pos 5)))
      × (change unset (pos 0) (list (pos 4 ∷ [])) ≡ becomes absent)
      × (change push (pos 5) absent ≡ becomes (list (pos 5 ∷ [])))
      × (change inc (negsuc 2) (number (pos 1)) ≡ becomes (number (negsuc 1)))
  -- known by any of the own changes, and by any of a buffered session's
  pub known_by_any : Plays setup
      (near false gets yes
      ∷ Begin gets says 1
      ∷ edit 1 1 0 set (pos 4) gets says 1
      ∷ edit 1 0 0 unset (pos 0) gets says 2
      ∷ edit 1 2 0 set (pos 4) gets says 3
      ∷ edit 1 1 0 inc (pos 1) gets says 4
      ∷ edit 1 0 0 inc (pos 1) gets says 5
      ∷ edit 1 2 0 inc (pos 1) gets says 6
      ∷ commit 1 gets says 1
      ∷ Begin gets says 2
      ∷ edit 2 1 0 inc (pos 1) gets says 1
      ∷ edit 2 0 0 inc (pos 1) gets says 2
      ∷ edit 2 2 0 inc (pos 1) gets says 3
      ∷ edit 2 3 0 inc (pos 1) gets no 20
      ∷ [])
  -- an inc, own or buffered, made while the store was near makes no field known; it stays and is committed
  pub inc_unknown : Plays setup
      (map_origin gets yes
      ∷ begins 2 0
      ++ (edit_origin 1 inc (pos 1) gets says 1
      ∷ edit 2 1 0 inc (pos 1) gets says 1
      ∷ commit 2 gets says 1
      ∷ near false gets yes
      ∷ edit_origin 1 inc (pos 1) gets no 20
      ∷ read 1 0 gets no 20
      ∷ commit 1 gets says 2
      ∷ Begin gets says 3
      ∷ edit 3 1 0 inc (pos 1) gets no 20
      ∷ []))
  -- what is known can be lost: with a delete, or with a dropped key
  pub known_lost : Plays setup
      (map_one 0 (pair 1 0) gets yes
      ∷ setting 1 1
      ++ (takes 0 gets says 1
      ∷ apply 0 arrives gets says 1
      ∷ begins 2 1
      ++ (read 2 0 gets says 1
      ∷ near false gets yes
      ∷ edit_origin 3 inc (pos 1) gets says 1
      ∷ edit 3 1 0 inc (pos 1) gets says 2
      ∷ Abandon (pos 3) gets yes
      ∷ delete 0 gets says 1
      ∷ begins 2 3
      ++ (edit_origin 4 inc (pos 1) gets no 20
      ∷ read 4 0 gets says 0
      ∷ advance 300 gets says 300
      ∷ edit 5 1 0 inc (pos 1) gets no 20
      ∷ []))))
  -- 4 by a place that is not the first and by a session between others; it frees what the session held
  pub exclusive_anywhere : Plays setup
      (map_two 0 zeros (pair 1 0) gets yes
      ∷ begins 3 0
      ++ (edit 2 1 0 set (pos 4) gets says 1
      ∷ edit 1 5 0 set (pos 4) gets says 1
      ∷ read 1 0 gets no 4
      ∷ edit 2 5 0 set (pos 4) gets says 2
      ∷ read 3 0 gets no 4
      ∷ report 2 gets (0 ∷ 0 ∷ 2 ∷ 2 ∷ [])
      ∷ []))
  -- a commit and an abandon end their session, whose leases are free, and no other
  pub ends : Plays setup
      (begins 3 0
      ++ (edit_origin 1 set (pos 4) gets says 1
      ∷ edit 2 1 0 set (pos 4) gets says 1
      ∷ edit 3 2 0 set (pos 4) gets says 1
      ∷ commit 1 gets says 1
      ∷ commit 1 gets no 2
      ∷ Abandon (pos 2) gets yes
      ∷ commit 2 gets no 2
      ∷ edit_origin 3 set (pos 4) gets says 2
      ∷ edit 3 1 0 set (pos 4) gets says 3
      ∷ report 3 gets (0 ∷ 0 ∷ 3 ∷ 3 ∷ [])
      ∷ takes 0 gets says 1
      ∷ apply 0 arrives gets says 1
      ∷ delete 0 gets says 1
      ∷ takes 0 gets no 18
      ∷ []))
  -- a doomed session's exclusive leases are free
  pub doomed_loses : Plays setup
      (map_origin gets yes
      ∷ begins 2 0
      ++ (edit 1 5 0 set (pos 4) gets says 1
      ∷ read 1 0 gets says 1
      ∷ edit_origin 2 set (pos 4) gets says 1
      ∷ edit 2 5 0 set (pos 4) gets says 2
      ∷ []))
  -- only the clock drops cached keys: not doom, 4, commit and abandon, nor the lapse of a session that was doomed before
  pub only_lapses_drop : Plays setup
      (map_origin gets yes
      ∷ map_one 1 (pair 1 0) gets yes
      ∷ begins 4 0
      ++ (read 1 0 gets says 1
      ∷ read 4 1 gets says 1
      ∷ Abandon (pos 4) gets yes
      ∷ edit_origin 2 set (pos 4) gets says 1
      ∷ read 3 0 gets no 4
      ∷ commit 2 gets says 1
      ∷ advance 300 gets says 300
      ∷ Begin gets says 5
      ∷ read 5 0 gets says 0
      ∷ read 5 1 gets says 0
      ∷ report 1 gets no 3
      ∷ []))
  -- a delete of a session that is gone leaves the others in the buffer
  pub gone_spares : Plays setup
      (slow1
      ++ setting 2 1
      ++ (apply 0 arrives gets says 2
      ∷ delete 0 gets says 0
      ∷ takes 2 gets says 2
      ∷ []))
  -- a row stays while its session is in any hand, and while it is buffered though a cut has emptied the hand
  pub last_hand : (removable (after last_hand3 setup) 1 ≡ false)
      × (removable (after (last_hand3 ++ (cuts 3 gets yes ∷ [])) setup) 1 ≡ true)
      × (removable (after (applied1 ++ (cuts 0 gets yes ∷ [])) setup) 1 ≡ false)
  -- the oldest is the first committed, whatever its number: a delete takes it alone, tells that it is gone while a lower number is
  -- buffered, and leaves a lease in the name of a worker of a higher number
  pub latter : Plays setup
      (latter_first
      ++ (takes 1 gets says 1
      ∷ apply 0 arrives gets says 2
      ∷ delete 0 gets says 0
      ∷ takes 2 gets no 16
      ∷ apply 1 arrives gets says 1
      ∷ delete 1 gets says 1
      ∷ takes 2 gets no 18
      ∷ []))
  -- another session in a hand or in the buffer, of a higher or a lower number, keeps no row
  pub other_hand : (removable (after (deleted1 ++ setting 2 1 ++ (takes 0 gets says 2 ∷ [])) setup) 1 ≡ true)
      × (removable (after latter_first setup) 2 ≡ false)
      × (removable (after (latter_first ++ (cuts 0 gets yes ∷ takes 1 gets says 1 ∷ [])) setup) 2 ≡ true)
  -- a lost apply that finds 48 rows does nothing; a change carried once is shown once, before and after the delete
  pub full_rows_leave : (after (apply 0 lost gets says 0 ∷ []) (hand_with_rows 2 48)).store origin ≡ absent
  pub shown_once : (step (read 2 0) (replicate 8 (pos 9)) (after (carried_once ++ (Begin gets says 2 ∷ [])) setup)).words
      ≡ pos 1 ∷ pos 1 ∷ pos 75 ∷ pos 0 ∷ pos 0 ∷ pos 0 ∷ pos 0 ∷ pos 0 ∷ []
  -- a change that is refused 6, 7, 8 or 20 takes no lease, dooms no reader and leaves its session
  pub refused_spare : Plays setup
      (load 0 0 set (pos 7) gets yes
      ∷ pushes 1 0 6
      ++ (load 2 0 set highest gets yes
      ∷ Map (pos 0) (pos 3) (record { first = pair 0 0; second = pair 1 0; third = pair 2 0; fourth = zeros }) gets yes
      ∷ begins 2 0
      ++ (read 1 0 gets says 1
      ∷ edit 2 0 0 push (pos 1) gets no 6
      ∷ edit 2 1 0 push (pos 1) gets no 7
      ∷ edit 2 2 0 inc (pos 1) gets no 8
      ∷ near false gets yes
      ∷ edit 2 3 0 inc (pos 1) gets no 20
      ∷ report 2 gets (0 ∷ 0 ∷ 0 ∷ 0 ∷ [])
      ∷ report 1 gets (0 ∷ 3 ∷ 0 ∷ 0 ∷ [])
      ∷ [])))
  -- an apply carries its own session's changes and no other's; a read shows both
  pub carries_one : ((after two_buffered setup).store origin ≡ number (pos 1))
      × ((step (read 3 0) (replicate 8 (pos 9)) (after (two_buffered ++ (Begin gets says 3 ∷ [])) setup)).words
      ≡ pos 1 ∷ pos 1 ∷ pos 11 ∷ pos 0 ∷ pos 0 ∷ pos 0 ∷ pos 0 ∷ pos 0 ∷ [])
  -- ── the paper's numbers ──
  pub limits : document_count ∷ field_count ∷ key_count ∷ place_limit ∷ member_limit ∷ cache_limit ∷ slot_limit ∷ change_limit ∷ buffer_limit ∷ row_limit
      ∷ worker_count ∷ sweep_limit ∷ words_per_field ∷ lease_ticks ∷ session_ticks ∷ advance_limit ∷ last_tick ∷ first_session ∷ last_session ∷ []
      ≡ 64 ∷ 4 ∷ 32 ∷ 4 ∷ 6 ∷ 16 ∷ 8 ∷ 8 ∷ 32 ∷ 48
      ∷ 4 ∷ 16 ∷ 8 ∷ 300 ∷ 1000 ∷ 65535 ∷ 99999999999 ∷ 1 ∷ 4294967295 ∷ []
  -- the refusals by their numbers
  pub refusals : map refusal_number
      (out_of_range ∷ no_slot ∷ was_doomed ∷ exclusive_elsewhere ∷ changes_full ∷ wrong_kind ∷ seventh_member ∷ sum_too_large ∷ key_undefined ∷ slots_full
      ∷ numbers_spent ∷ session_begun ∷ key_defined ∷ bad_places ∷ buffer_full ∷ queue_leased ∷ wrong_hand ∷ nothing_buffered ∷ rows_full ∷ store_away
      ∷ clock_end ∷ few_words ∷ bad_line ∷ [])
      ≡ span 1 23
  -- the calls by their numbers
  pub numbers : map call_number
      (load 0 0 set (pos 1) ∷ map_origin ∷ Begin ∷ read 1 0 ∷ edit_origin 1 set (pos 1) ∷ commit 1 ∷ Abandon (pos 1) ∷ advance 0 ∷ takes 0
      ∷ apply 0 arrives ∷ delete 0 ∷ cuts 0 ∷ Sweep ∷ near true ∷ report 1 ∷ [])
      ≡ span 1 15
  -- the rules of the plant compute: they hold with a key cached, a session open, one buffered, applied and in a hand,
  -- and not of a row that no session left
  pub computes : (kept (after (map_origin gets yes ∷ setting 1 1 ++ (takes 0 gets says 1 ∷ apply 0 lost gets says 0 ∷ Begin gets says 2
      ∷ read 2 0 gets says 1 ∷ edit_origin 2 inc (pos 1) gets says 1 ∷ [])) setup) ≡ true)
      × (kept (with_rows (1 ∷ []) setup) ≡ false)
