-- Both edges of the limits: the last that is taken and the first that is not. Those of M1 to M12 stand in Edges, those of one refusal alone in Runs, those of cached keys in CacheRuns, those of a sweep in RowRuns.
use Rattle.std.specs.Prelude.{◌≡◌, false, true, List, [], ◌++◌, ◌∷◌, replicate, negsuc, pos}
use Rattle.rules.specs.Lists.{span}
use Rattle.rules.specs.Limits.{lowest, highest}
use Rattle.rules.specs.Refusals.{seventh_member, sum_too_large}
use Rattle.rules.specs.Values.{in_range, absent, number, list, field_ok}
use Rattle.rules.specs.Changes.{set, unset, inc, add, push, becomes, fails, member, change, update_of}
use Rattle.rules.specs.Tables.{Plant, setup, with_cache, with_slots, with_buffer, with_rows, with_clock, with_next}
use Rattle.rules.specs.Calls.{arrives, unreached, Map, Begin, Change, Apply}
use Rattle.rules.specs.Effects.{opened, taken}
use Rattle.rules.specs.Step.{step}
use Rattle.rules.specs.Kept.{kept}
use Rattle.rules.specs.Scenario.{Line, ◌gets◌, yes, says, no, line_of, after, Plays, pair, zeros, map_one, read, edit, advance, takes, apply, delete, cuts, setting, origin, begins, sixteen_cached, hand_with_rows}
use Rattle.rules.specs.Edges.{changing, six_members}

-- a key of all four fields of a document, and session 1
abbrev pub four_places : List Line
four_places =
    Map (pos 0) (pos 4) (record { first = pair 0 0; second = pair 0 1; third = pair 0 2; fourth = pair 0 3 }) gets yes ∷ Begin gets says 1 ∷ []

-- sixteen cached keys, eight sessions, 32 buffered ones
abbrev pub cached_full : Plant
cached_full = after sixteen_cached setup

abbrev pub slots_full : Plant
slots_full = after (begins 8 0) setup

abbrev pub buffer_full : Plant
buffer_full = after (changing 32 0) setup

pub record Bounds : Type 0 where
  -- a change's document, field, kind and value; the eighth change and the ninth
  pub changes : Plays setup
      (Begin gets says 1
      ∷ edit 1 64 3 set (pos 1) gets no 1
      ∷ edit 1 63 4 set (pos 1) gets no 1
      ∷ edit 1 63 3 set (pos 2147483648) gets no 1
      ∷ edit 1 63 3 set (negsuc 2147483648) gets no 1
      ∷ edit 1 63 3 set highest gets says 1
      ∷ edit 1 63 3 set lowest gets says 2
      ∷ edit 1 63 3 unset (pos 1) gets no 1
      ∷ edit 1 63 3 unset (negsuc 0) gets no 1
      ∷ Change (pos 1) (pos 0) (pos 0) (pos 0) (pos 0) gets no 1
      ∷ Change (pos 1) (pos 0) (pos 0) (pos 7) (pos 0) gets no 1
      ∷ Change (pos 1) (pos 0) (pos 0) (negsuc 0) (pos 0) gets no 1
      ∷ Change (pos 1) (pos 0) (pos 0) (pos 1) (pos 5) gets says 3
      ∷ Change (pos 1) (pos 0) (pos 0) (pos 3) (pos 5) gets says 4
      ∷ Change (pos 1) (pos 0) (pos 0) (pos 2) (pos 0) gets says 5
      ∷ Change (pos 1) (pos 0) (pos 0) (pos 4) (pos 5) gets says 6
      ∷ Change (pos 1) (pos 0) (pos 0) (pos 5) (pos 5) gets says 7
      ∷ Change (pos 1) (pos 0) (pos 0) (pos 6) (pos 5) gets says 8
      ∷ Change (pos 1) (pos 0) (pos 0) (pos 6) (pos 5) gets no 5
      ∷ [])
  -- a key, and each of the four pairs, used or not
  pub maps : Plays setup
      (map_one 32 zeros gets no 1
      ∷ map_one 0 (pair 64 0) gets no 1
      ∷ map_one 0 (pair 0 4) gets no 1
      ∷ Map (pos 0) (pos 1) (record { first = zeros; second = pair 0 4; third = zeros; fourth = zeros }) gets no 1
      ∷ Map (pos 0) (pos 1) (record { first = zeros; second = zeros; third = pair 64 0; fourth = zeros }) gets no 1
      ∷ Map (pos 0) (pos 1) (record { first = zeros; second = zeros; third = zeros; fourth = pair 0 4 }) gets no 1
      ∷ Map (pos 0) (pos 4) (record { first = pair 63 0; second = pair 63 1; third = pair 63 2; fourth = pair 63 2 }) gets no 14
      ∷ Map (pos 0) (pos 5) (record { first = pair 63 0; second = pair 63 1; third = pair 63 2; fourth = pair 63 3 }) gets no 14
      ∷ Map (pos 0) (pos 3) (record { first = pair 63 0; second = pair 63 1; third = pair 63 2; fourth = pair 63 3 }) gets no 14
      ∷ Map (pos 0) (pos 4) (record { first = pair 63 0; second = pair 63 1; third = pair 63 2; fourth = pair 63 3 }) gets yes
      ∷ Map (pos 31) (pos 1) (record { first = pair 63 3; second = zeros; third = zeros; fourth = zeros }) gets yes
      ∷ Begin gets says 1
      ∷ read 1 31 gets says 1
      ∷ read 1 30 gets no 9
      ∷ read 1 32 gets no 1
      ∷ read 1 0 gets says 1
      ∷ [])
  -- the last place of the store, and what a field may hold
  pub places : in_range (record { document = 63; field = 3 }) ∷ in_range (record { document = 64; field = 0 }) ∷ in_range (record { document = 0; field = 4 }) ∷ []
      ≡ true ∷ false ∷ false ∷ []
  pub fields : field_ok (list six_members) ∷ field_ok (list (pos 7 ∷ six_members)) ∷ field_ok (list (pos 1 ∷ pos 2147483648 ∷ []))
      ∷ field_ok (number highest) ∷ field_ok (number lowest) ∷ field_ok (number (pos 2147483648)) ∷ field_ok (number (negsuc 2147483648)) ∷ field_ok absent ∷ []
      ≡ true ∷ false ∷ false ∷ true ∷ true ∷ false ∷ false ∷ true ∷ []
  -- four places want 32 words
  pub words : (line_of (step (read 1 0) (replicate 31 (pos 0)) (after four_places setup)).answer ≡ no 22)
      × (line_of (step (read 1 0) (replicate 32 (pos 0)) (after four_places setup)).answer ≡ says 1)
  -- sums at both ends of 32 bits
  pub sums : (change inc (pos 1) (number (pos 2147483646)) ≡ becomes (number highest))
      × (change inc (negsuc 0) (number (negsuc 2147483646)) ≡ becomes (number lowest))
      × (change inc (negsuc 0) (number lowest) ≡ fails sum_too_large)
      × (change inc highest (number highest) ≡ fails sum_too_large)
      × (change inc lowest (number lowest) ≡ fails sum_too_large)
      × (change inc lowest (number highest) ≡ becomes (number (negsuc 0)))
      × (change inc lowest absent ≡ becomes (number lowest))
  -- the sixth member and the seventh
  pub members : (change push (pos 6) (list (pos 1 ∷ pos 2 ∷ pos 3 ∷ pos 4 ∷ pos 5 ∷ [])) ≡ becomes (list six_members))
      × (change add (pos 6) (list (pos 1 ∷ pos 2 ∷ pos 3 ∷ pos 4 ∷ pos 5 ∷ [])) ≡ becomes (list six_members))
      × (change add (pos 7) (list six_members) ≡ fails seventh_member)
      × (change add (pos 6) (list six_members) ≡ becomes (list six_members))
  -- workers 0 to 3 and fates 0 to 2
  pub workers : Plays setup
      (setting 1 1
      ++ (takes 4 gets no 1
      ∷ takes 3 gets says 1
      ∷ Apply (pos 3) (pos 3) gets no 1
      ∷ apply 4 arrives gets no 1
      ∷ apply 3 unreached gets says 0
      ∷ apply 3 arrives gets says 1
      ∷ delete 4 gets no 1
      ∷ delete 3 gets says 1
      ∷ cuts 4 gets no 1
      ∷ cuts 3 gets yes
      ∷ []))
  -- an advance of the most ticks, to the clock's end and one past it
  pub clock : Plays (with_clock 99999934464 setup) (advance 65536 gets no 1 ∷ advance 65535 gets says 99999999999 ∷ advance 1 gets no 21 ∷ [])
  pub clock_past : Plays (with_clock 99999934465 setup) (advance 65535 gets no 21 ∷ advance 65534 gets says 99999999999 ∷ [])
  -- the 48th row and the 49th
  pub rows : Plays (hand_with_rows 2 47) (apply 0 arrives gets says 1 ∷ []) × Plays (hand_with_rows 2 48) (apply 0 arrives gets no 19 ∷ [])
  -- a plant keeps its rules with its tables full, and not with one entry more
  pub cached : (kept cached_full ≡ true) × (kept (with_cache (cached_full.cache ++ (record { key = 16; fields = absent ∷ [] } ∷ [])) cached_full) ≡ false)
  pub slots : (kept slots_full ≡ true) × (kept (with_next 10 (with_slots (slots_full.slots ++ (opened 9 0 ∷ [])) slots_full)) ≡ false)
  pub buffered : (kept buffer_full ≡ true)
      × (kept (with_next 34 (with_buffer (buffer_full.buffer ++ (record { number = 33; changes = update_of origin 1 (pos 5) ∷ [] } ∷ [])) buffer_full)) ≡ false)
  pub rows_kept : (kept (with_next 49 (with_rows (span 1 48) setup)) ≡ true) × (kept (with_next 50 (with_rows (span 1 49) setup)) ≡ false)
  -- nor with a row twice, the first or a later one
  pub rows_once : (kept (with_next 3 (with_rows (1 ∷ 1 ∷ []) setup)) ≡ false) × (kept (with_next 3 (with_rows (1 ∷ 2 ∷ 2 ∷ []) setup)) ≡ false)
  pub clock_kept : (kept (with_clock 99999999999 setup) ≡ true) × (kept (with_clock 100000000000 setup) ≡ false)
  pub numbers_kept : (kept (with_next 4294967296 setup) ≡ true) × (kept (with_next 4294967297 setup) ≡ false) × (kept (with_next 0 setup) ≡ false)
