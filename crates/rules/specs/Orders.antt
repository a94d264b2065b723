-- Two conditions of a call hold at once: the first in the paper's order is given. Where two neighbours never hold at once, that is said.
use Rattle.std.specs.Prelude.{suc, ℕ, ◌≡◌, false, true, List, [], ◌++◌, ◌∷◌, negsuc, pos}
use Rattle.rules.specs.Limits.{last_session, highest}
use Rattle.rules.specs.Changes.{set, inc, push, change}
use Rattle.rules.specs.Tables.{setup, with_clock, with_next}
use Rattle.rules.specs.Calls.{arrives, lost, unreached, Call, Map, Begin, Abandon, Take, Apply, Delete, Report}
use Rattle.rules.specs.Conditions.{conditions}
use Rattle.rules.specs.Step.{step}
use Rattle.rules.specs.Scenario.{Line, ◌gets◌, yes, says, no, line_of, after, Plays, load, pair, zeros, map_one, map_two, read, edit, commit, advance, takes, apply, delete, near, map_origin, edit_origin, setting, begins, sets_by, pushes, hand_with_rows, applied1}
use Rattle.rules.specs.Edges.{changing}

-- the answer to a call with no word lent, after a run
abbrev pub wordless : Call → List Line → List ℕ
wordless c ls = line_of (step c [] (after ls setup)).answer

pub record Orders : Type 0 where
  -- load 1, 12, 20, 6, 7, 8: of 6, 7 and 8 no two hold at once, as each is of another kind of field
  pub of_load : Plays setup
      (load 0 0 set (pos 1) gets yes
      ∷ pushes 0 1 6
      ++ (load 0 2 set highest gets yes
      ∷ near false gets yes
      -- 20 and 6, 20 and 7, 20 and 8, 1 and 20
      ∷ load 0 0 push (pos 1) gets no 20
      ∷ load 0 1 push (pos 1) gets no 20
      ∷ load 0 2 inc (pos 1) gets no 20
      ∷ load 0 4 set (pos 1) gets no 1
      ∷ Begin gets says 1
      -- 12 and 20, 1 and 12
      ∷ load 0 0 push (pos 1) gets no 12
      ∷ load 64 0 push (pos 1) gets no 1
      ∷ near true gets yes
      -- 12 and 6, 12 and 7, 12 and 8
      ∷ load 0 0 push (pos 1) gets no 12
      ∷ load 0 1 push (pos 1) gets no 12
      ∷ load 0 2 inc (pos 1) gets no 12
      ∷ []))
  -- map 1, 12, 13, 14
  pub of_map : Plays setup
      (map_origin gets yes
      -- 13 and 14, 1 and 13, 1 and 14
      ∷ Map (pos 0) (pos 0) (record { first = zeros; second = zeros; third = zeros; fourth = zeros }) gets no 13
      ∷ map_one 0 (pair 64 0) gets no 1
      ∷ Map (pos 1) (pos 0) (record { first = zeros; second = zeros; third = pair 0 4; fourth = zeros }) gets no 1
      ∷ Begin gets says 1
      -- 12 and 13, 12 and 14, 1 and 12
      ∷ map_origin gets no 12
      ∷ Map (pos 1) (pos 0) (record { first = zeros; second = zeros; third = zeros; fourth = zeros }) gets no 12
      ∷ map_one 32 zeros gets no 1
      ∷ Map (pos 1) (pos 1) (record { first = zeros; second = pair 64 0; third = zeros; fourth = zeros }) gets no 1
      ∷ [])
  -- begin 11, 10
  pub of_begin : Plays (with_next (suc last_session) (after (begins 8 0) setup)) (Begin gets no 11 ∷ [])
  -- read 1, 2, 3, 9, 22, 4, 20: 2 and 3 never hold at once, as a doomed session has a slot until its next call;
  -- nor do 9 and 22, as an undefined key has no place to show
  pub of_read : Plays setup
      (map_two 0 zeros (pair 1 0) gets yes
      ∷ near false gets yes
      ∷ begins 3 0
      ++ (edit_origin 1 set (pos 4) gets says 1
      -- 1 and 2, 2 and 9, 2 and 4, 4 and 20
      ∷ read 4 32 gets no 1
      ∷ read 4 5 gets no 2
      ∷ read 4 0 gets no 2
      ∷ read 2 5 gets no 9
      ∷ read 2 0 gets no 4
      ∷ advance 1000 gets says 1000
      -- 1 and 3, which frees nothing, 3 and 9, 3 and 20
      ∷ read 1 32 gets no 1
      ∷ read 1 5 gets no 3
      ∷ read 3 0 gets no 3
      ∷ []))
  -- 3 and 4, of a read and of a change
  pub of_doomed : Plays setup
      (map_origin gets yes
      ∷ begins 3 0
      ++ (read 1 0 gets says 1
      ∷ read 3 0 gets says 0
      ∷ edit_origin 2 set (pos 7) gets says 1
      ∷ read 1 0 gets no 3
      ∷ edit_origin 3 set (pos 7) gets no 3
      ∷ []))
  -- no word lent: 2 and 22, 3 and 22, 22 and 4, 22 and 20; and 9
  pub of_words : (wordless (read 2 0) (map_origin gets yes ∷ Begin gets says 1 ∷ []) ≡ no 2)
      × (wordless (read 1 0) (map_origin gets yes ∷ Begin gets says 1 ∷ advance 1000 gets says 1000 ∷ []) ≡ no 3)
      × (wordless (read 2 0) (map_origin gets yes ∷ begins 2 0 ++ (edit_origin 1 set (pos 4) gets says 1 ∷ [])) ≡ no 22)
      × (wordless (read 1 0) (map_origin gets yes ∷ Begin gets says 1 ∷ near false gets yes ∷ []) ≡ no 22)
      × (wordless (read 1 1) (map_origin gets yes ∷ Begin gets says 1 ∷ []) ≡ no 9)
  -- change 1, 2, 3, 5, 4, 20, 6, 7, 8: 3 and 5 never hold at once, as a doomed session has lost its changes; nor do 2 and 3, or two of
  -- 6, 7 and 8, as above
  pub of_change : Plays setup
      (load 0 0 set (pos 7) gets yes
      ∷ load 1 0 set (pos 7) gets yes
      ∷ pushes 1 1 6
      ++ (load 1 2 set highest gets yes
      ∷ begins 3 0
      ++ (sets_by 1 8 0
      ++ (edit 2 9 0 set (pos 1) gets says 1
      -- 5 and 6, 4 and 6, 1 and 2, 2 and 4
      ∷ edit_origin 1 push (pos 1) gets no 5
      ∷ edit_origin 3 push (pos 1) gets no 4
      ∷ edit 3 64 0 set (pos 1) gets no 1
      ∷ edit 3 9 0 set (pos 1) gets no 2
      ∷ near false gets yes
      ∷ Begin gets says 4
      -- 5 and 20, 5 and 4, 20 and 6, 20 and 7, 20 and 8, 2 and 20, 4 and 20
      ∷ edit 1 8 0 push (pos 1) gets no 5
      ∷ edit 1 9 0 set (pos 1) gets no 5
      ∷ edit 4 1 0 push (pos 1) gets no 20
      ∷ edit 4 1 1 push (pos 1) gets no 20
      ∷ edit 4 1 2 inc (pos 1) gets no 20
      ∷ edit 5 8 0 push (pos 1) gets no 2
      ∷ edit 4 9 1 inc (pos 1) gets no 4
      ∷ []))))
  -- 1 and 3, which frees nothing, 3 and 6, 3 and 20
  pub of_lapsed : Plays setup
      (load 0 0 set (pos 7) gets yes
      ∷ begins 2 0
      ++ (advance 1000 gets says 1000
      ∷ edit 1 0 4 push (pos 7) gets no 1
      ∷ edit_origin 1 push (pos 7) gets no 3
      ∷ near false gets yes
      ∷ edit_origin 2 inc (pos 7) gets no 3
      ∷ edit_origin 2 inc (pos 7) gets no 2
      ∷ []))
  -- commit 2, 3, 15: neither 2 nor 3 holds at once with 15, as there is no session with changes, nor do the two; the buffer is full all the same
  pub of_commit : Plays setup
      (changing 32 0
      ++ (Begin gets says 33
      ∷ edit_origin 33 set (pos 5) gets says 1
      ∷ commit 32 gets no 2
      ∷ advance 300 gets says 300
      ∷ commit 33 gets no 3
      ∷ []))
  -- abandon and report 2, 3: the two never hold at once
  pub of_abandon : Plays setup (Begin gets says 1 ∷ advance 1000 gets says 1000 ∷ Abandon (pos 1) gets no 3 ∷ Abandon (pos 1) gets no 2 ∷ [])
  pub of_report : Plays setup (Begin gets says 1 ∷ advance 1000 gets says 1000 ∷ Report (pos 1) gets no 3 ∷ Report (pos 1) gets no 2 ∷ [])
  -- advance 1, 21
  pub of_advance : Plays (with_clock 99999999999 setup) (advance 65536 gets no 1 ∷ advance 65535 gets no 21 ∷ [])
  -- take 1, 17, 16, 18: 1 and 17 never hold at once, as only workers have hands
  pub of_take : Plays setup
      (takes 4 gets no 1
      ∷ setting 1 1
      ++ (takes 0 gets says 1
      -- no worker -1, whoever's hand is full; 17 and 16, 1 and 16
      ∷ Take (negsuc 0) gets no 1
      ∷ takes 0 gets no 17
      ∷ takes 4 gets no 1
      ∷ apply 0 arrives gets says 1
      ∷ advance 300 gets says 300
      ∷ takes 1 gets says 1
      ∷ delete 0 gets says 1
      -- 16 and 18, 17 and 18
      ∷ takes 2 gets no 16
      ∷ advance 300 gets says 600
      ∷ takes 1 gets no 17
      ∷ takes 2 gets no 18
      ∷ []))
  -- apply 1, 17, 20, then fate 2 is no word, then 19, which with fate 1 is no word
  pub of_apply : Plays (hand_with_rows 2 48)
      (apply 0 lost gets says 0
      ∷ apply 0 unreached gets says 0
      ∷ apply 1 unreached gets no 17
      ∷ near false gets yes
      -- 20 and 19, 20 and fate 2, 20 and fate 1, 17 and 20, 1 and 20, 1 and 17
      ∷ apply 0 arrives gets no 20
      ∷ apply 0 unreached gets no 20
      ∷ apply 0 lost gets no 20
      ∷ apply 1 arrives gets no 17
      ∷ Apply (pos 0) (pos 3) gets no 1
      ∷ Apply (pos 1) (pos 3) gets no 1
      ∷ apply 4 arrives gets no 1
      ∷ [])
  -- 17 and 20 after a reply, and 17 and fate 2
  pub of_replied : Plays setup (applied1 ++ (apply 0 unreached gets no 17 ∷ near false gets yes ∷ apply 0 arrives gets no 17 ∷ []))
  -- delete 1, 17
  pub of_delete : Plays setup (delete 4 gets no 1 ∷ Delete (negsuc 0) gets no 1 ∷ delete 0 gets no 17 ∷ [])
