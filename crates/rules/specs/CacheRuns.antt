-- Runs worked out from the papers: what is cached, and of sixteen keys which one gives way.
use Rattle.std.specs.Prelude.{◌≡◌, false, true, List, [], ◌++◌, ◌∷◌, pos}
use Rattle.rules.specs.Refusals.{exclusive_elsewhere}
use Rattle.rules.specs.Values.{number}
use Rattle.rules.specs.Changes.{set}
use Rattle.rules.specs.Tables.{keys_of, setup}
use Rattle.rules.specs.Calls.{Call, Begin, Abandon, Answer, refused, fine}
use Rattle.rules.specs.Effects.{lapse}
use Rattle.rules.specs.History.{Exchange}
use Rattle.rules.specs.CacheOrder.{by_reads, read_order}
use Rattle.rules.specs.Scenario.{Line, ◌gets◌, yes, says, no, after, Plays, pair, map_one, read, edit, commit, advance, near, map_origin, edit_origin, map_keys, read_keys, sixteen_cached}
use Rattle.rules.specs.Histories.{turns_of}

-- session 1 has gone and left them; 15 is dropped by a lapse and cached again
abbrev pub again : List Line
again =
    sixteen_cached
    ++ (Abandon (pos 1) gets yes
    ∷ Begin gets says 2
    ∷ read 2 15 gets says 0
    ∷ advance 300 gets says 300
    ∷ Begin gets says 3
    ∷ read 3 15 gets says 1
    ∷ [])

-- and then 16 is cached, for which 14 gives way
abbrev pub then_sixteen : List Line
then_sixteen = again ++ (read 3 16 gets says 1 ∷ [])

-- the origin is set to 4 in the buffer alone
abbrev pub buffered_four : List Line
buffered_four = map_origin gets yes ∷ Begin gets says 1 ∷ edit_origin 1 set (pos 4) gets says 1 ∷ commit 1 gets says 1 ∷ Begin gets says 2 ∷ []

abbrev pub exchange : Call → Answer → Exchange
exchange c a = record { call = c; answer = a }

pub record CacheRuns : Type 0 where
  -- the sixteenth key makes none give way, nor does a read with mark 0; the seventeenth makes 15 do so, though it was read just before;
  -- its return 14; and so on
  pub seventeen : Plays setup
      (sixteen_cached
      ++ (read 1 15 gets says 0
      ∷ read 1 15 gets says 0
      ∷ read 1 16 gets says 1
      ∷ read 1 14 gets says 0
      ∷ read 1 16 gets says 0
      ∷ read 1 15 gets says 1
      ∷ read 1 14 gets says 1
      ∷ read 1 12 gets says 0
      ∷ read 1 13 gets says 1
      ∷ read 1 16 gets says 0
      ∷ read 1 12 gets says 1
      ∷ []))
  -- a later commit brings 15, the oldest, up to date, and long after nothing has lapsed; it is still the first to give way, and then 14
  pub brought_up_to_date : Plays setup
      (sixteen_cached
      ++ (advance 100 gets says 100
      ∷ Begin gets says 2
      ∷ edit 2 15 0 set (pos 4) gets says 1
      ∷ commit 2 gets says 1
      ∷ advance 65535 gets says 65635
      ∷ Begin gets says 3
      ∷ read 3 15 gets says 0
      ∷ read 3 16 gets says 1
      ∷ read 3 14 gets says 0
      ∷ read 3 15 gets says 1
      ∷ read 3 14 gets says 1
      ∷ []))
  -- 15, dropped and cached again, counts anew: fifteen others leave it room, and 14 is the first to give way, then 13
  pub cached_again : Plays setup
      (again
      ++ (read 3 14 gets says 0
      ∷ read 3 16 gets says 1
      ∷ read 3 15 gets says 0
      ∷ read 3 14 gets says 1
      ∷ read 3 12 gets says 0
      ∷ read 3 13 gets says 1
      ∷ []))
  -- a read with mark 2, of a cached key or of another, and a refused one give no place and make none give way
  pub no_place : Plays setup
      (sixteen_cached
      ++ (edit 1 15 0 set (pos 4) gets says 1
      ∷ read 1 15 gets says 2
      ∷ edit 1 16 0 set (pos 4) gets says 2
      ∷ read 1 16 gets says 2
      ∷ Begin gets says 2
      ∷ read 2 15 gets no 4
      ∷ near false gets yes
      ∷ read 1 17 gets no 20
      ∷ near true gets yes
      ∷ Abandon (pos 1) gets yes
      ∷ Begin gets says 3
      ∷ read 3 15 gets says 0
      ∷ read 3 16 gets says 1
      ∷ read 3 14 gets says 0
      ∷ read 3 15 gets says 1
      ∷ []))
  -- a read that caches while the store is away makes the oldest give way too, and that key's place is then not known
  pub while_away : Plays setup
      (map_keys 16
      ++ (map_one 16 (pair 0 0) gets yes
      ∷ Begin gets says 1
      ∷ read_keys 16
      ++ (near false gets yes
      ∷ read 1 16 gets says 1
      ∷ read 1 15 gets no 20
      ∷ read 1 14 gets says 0
      ∷ near true gets yes
      ∷ read 1 15 gets says 1
      ∷ read 1 14 gets says 1
      ∷ [])))
  -- what is cached is what store and buffer show, and a commit brings it up to date
  pub fields : ((after (buffered_four ++ (read 2 0 gets says 1 ∷ [])) setup).cache ≡ record { key = 0; fields = number (pos 4) ∷ [] } ∷ [])
      × ((after (buffered_four ++ (read 2 0 gets says 1 ∷ edit_origin 2 set (pos 5) gets says 1 ∷ commit 2 gets says 2 ∷ [])) setup).cache
      ≡ record { key = 0; fields = number (pos 5) ∷ [] } ∷ [])
  -- the order, and the keys that are left of it
  pub order : (read_order (turns_of sixteen_cached) ≡ 15 ∷ 14 ∷ 13 ∷ 12 ∷ 11 ∷ 10 ∷ 9 ∷ 8 ∷ 7 ∷ 6 ∷ 5 ∷ 4 ∷ 3 ∷ 2 ∷ 1 ∷ 0 ∷ [])
      × (read_order (turns_of then_sixteen) ≡ 14 ∷ 13 ∷ 12 ∷ 11 ∷ 10 ∷ 9 ∷ 8 ∷ 7 ∷ 6 ∷ 5 ∷ 4 ∷ 3 ∷ 2 ∷ 1 ∷ 0 ∷ 15 ∷ 16 ∷ [])
      × (keys_of (after then_sixteen setup).cache ≡ 13 ∷ 12 ∷ 11 ∷ 10 ∷ 9 ∷ 8 ∷ 7 ∷ 6 ∷ 5 ∷ 4 ∷ 3 ∷ 2 ∷ 1 ∷ 0 ∷ 15 ∷ 16 ∷ [])
  -- of answers: mark 1 puts a key last, also one that was there; marks 0 and 2, a refusal and other calls put none
  pub by_marks : by_reads
      (exchange (read 1 5) (fine (1 ∷ []))
      ∷ exchange (read 1 6) (fine (1 ∷ []))
      ∷ exchange (read 1 7) (fine (1 ∷ []))
      ∷ exchange (read 1 6) (fine (0 ∷ []))
      ∷ exchange (read 1 8) (fine (2 ∷ []))
      ∷ exchange (read 1 9) (refused exclusive_elsewhere)
      ∷ exchange (commit 1) (fine (1 ∷ []))
      ∷ exchange Begin (fine (8 ∷ []))
      ∷ exchange (edit 1 9 0 set (pos 1)) (fine (1 ∷ []))
      ∷ exchange (advance 4) (fine (1 ∷ []))
      ∷ exchange (read 1 5) (fine (1 ∷ []))
      ∷ [])
      (3 ∷ 5 ∷ [])
      ≡ 3 ∷ 6 ∷ 7 ∷ 5 ∷ []
