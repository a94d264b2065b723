-- Who is turned away: the conditions of each call, in the paper's order.
use Rattle.std.specs.Prelude.{◌*◌, ◌+◌, suc, ℕ, Bool, ◌&&◌, ◌||◌, false, not, true, List, [], ◌∷◌, drop, length, take, eqb, leb, ltb, ℤ}
use Rattle.std.proofs.Math.Option.{Option}
use Rattle.rules.specs.Lists.{any, all, is_empty, has, is_case, same_case, bit}
use Rattle.rules.specs.Limits.{document_count, field_count, key_count, place_limit, slot_limit, change_limit, buffer_limit, row_limit, worker_count, words_per_field, advance_limit, last_tick, first_session, last_session}
use Rattle.rules.specs.Refusals.{Refusal, out_of_range, no_slot, was_doomed, exclusive_elsewhere, changes_full, key_undefined, slots_full, numbers_spent, session_begun, key_defined, bad_places, buffer_full, queue_leased, wrong_hand, nothing_buffered, rows_full, store_away, clock_end, few_words, ◌⇒◌}
use Rattle.rules.specs.Values.{below, nat_of, is_natural, Place, twice}
use Rattle.rules.specs.Changes.{kind_of, Update, meets, is_set, good_value, good_kind, place_of, update_of}
use Rattle.rules.specs.Tables.{Session, is_slot, session, others_exclusive, full, replied, handed, is_leased, Plant}
use Rattle.rules.specs.Reading.{seen, known}
use Rattle.rules.specs.Calls.{Pairs, pairs_in, places_of, arrives, fate_number, fates, fate_of, Call, Load, Map, Begin, Read, Change, Commit, Abandon, Advance, Take, Apply, Delete, Cut, Sweep, Store, Report}

-- the session of a number, as an argument, and its changes
abbrev pub session_at : ℤ → Plant → Session
session_at s p = session (nat_of s) p.slots

abbrev pub own : ℤ → Plant → List Update
own s p = (session_at s p).changes

-- ── arguments in their range ──
abbrev pub good_place : ℤ → ℤ → Bool
good_place d f = below d document_count && below f field_count

abbrev pub good_pairs : Pairs → Bool
good_pairs m = all (λ x. good_place x.document x.field) (pairs_in m)

abbrev pub good_count : ℤ → Bool
good_count n = below n (suc place_limit) && not (eqb (nat_of n) 0)

abbrev pub good_change : ℤ → ℤ → Bool
good_change k v = good_kind k && good_value (kind_of (nat_of k)) v

abbrev pub good_fate : ℤ → Bool
good_fate f = is_natural f && is_case fate_number fates (nat_of f)

-- 1 near, 0 away
abbrev pub good_store_mark : ℤ → Bool
good_store_mark n = is_natural n && is_case bit (true ∷ false ∷ []) (nat_of n)

-- ── tests on the plant ──
abbrev pub is_zero : Place → Bool
is_zero q = eqb q.document 0 && eqb q.field 0

-- a session has begun
abbrev pub ever_begun : Plant → Bool
ever_begun p = ltb first_session p.next

-- 48 rows, and the worker's session has none
abbrev pub no_room : ℕ → Plant → Bool
no_room w p = leb row_limit (length p.rows) && not (has (handed (p.hands w)) p.rows)

unfoldable pub conditions : Call → List ℤ → Plant → List (Option Refusal)
-- load 1, 12, 20, 6, 7, 8
conditions (Load d f k v) lent p =
    (not (good_place d f && good_change k v) ⇒ out_of_range)
    ∷ (ever_begun p ⇒ session_begun)
    ∷ (not p.near ⇒ store_away)
    ∷ meets (update_of (place_of d f) (nat_of k) v) (p.store (place_of d f))
    ∷ []
-- map 1, 12, 13, 14 (1 looks at all four pairs, used or not)
conditions (Map k n m) lent p =
    (not (below k key_count && good_pairs m) ⇒ out_of_range)
    ∷ (ever_begun p ⇒ session_begun)
    ∷ (not (is_empty (p.keys (nat_of k))) ⇒ key_defined)
    ∷ (not (good_count n) || any (λ q. not (is_zero q)) (drop (nat_of n) (places_of m)) || twice (take (nat_of n) (places_of m)) ⇒ bad_places)
    ∷ []
-- begin 11, 10
conditions Begin lent p =
    (ltb last_session p.next ⇒ numbers_spent)
    ∷ (leb slot_limit (length p.slots) && not (any (λ s. s.session.doomed) p.slots) ⇒ slots_full)
    ∷ []
-- read 1, 2, 3, 9, 22, 4, 20
conditions (Read s k) lent p =
    (not (below k key_count) ⇒ out_of_range)
    ∷ (not (is_slot s p.slots) ⇒ no_slot)
    ∷ ((session_at s p).doomed ⇒ was_doomed)
    ∷ (is_empty (p.keys (nat_of k)) ⇒ key_undefined)
    ∷ (ltb (length lent) (words_per_field * length (p.keys (nat_of k))) ⇒ few_words)
    ∷ (any (λ q. others_exclusive (nat_of s) q.document p.slots) (p.keys (nat_of k)) ⇒ exclusive_elsewhere)
    ∷ (any (λ q. not (known p (own s p) q)) (p.keys (nat_of k)) ⇒ store_away)
    ∷ []
-- change 1, 2, 3, 5, 4, 20, 6, 7, 8
conditions (Change s d f k v) lent p =
    (not (good_place d f && good_change k v) ⇒ out_of_range)
    ∷ (not (is_slot s p.slots) ⇒ no_slot)
    ∷ ((session_at s p).doomed ⇒ was_doomed)
    ∷ (leb change_limit (length (own s p)) ⇒ changes_full)
    ∷ (others_exclusive (nat_of s) (nat_of d) p.slots ⇒ exclusive_elsewhere)
    ∷ (not (is_set (kind_of (nat_of k))) && not (known p (own s p) (place_of d f)) ⇒ store_away)
    ∷ meets (update_of (place_of d f) (nat_of k) v) (seen p (own s p) (place_of d f))
    ∷ []
-- commit 2, 3, 15
conditions (Commit s) lent p =
    (not (is_slot s p.slots) ⇒ no_slot)
    ∷ ((session_at s p).doomed ⇒ was_doomed)
    ∷ (not (is_empty (own s p)) && leb buffer_limit (length p.buffer) ⇒ buffer_full)
    ∷ []
-- abandon 2, 3
conditions (Abandon s) lent p =
    (not (is_slot s p.slots) ⇒ no_slot)
    ∷ ((session_at s p).doomed ⇒ was_doomed)
    ∷ []
-- advance 1, 21
conditions (Advance n) lent p =
    (not (below n (suc advance_limit)) ⇒ out_of_range)
    ∷ (ltb last_tick (p.clock + nat_of n) ⇒ clock_end)
    ∷ []
-- take 1, 17, 16, 18
conditions (Take w) lent p =
    (not (below w worker_count) ⇒ out_of_range)
    ∷ (full (p.hands (nat_of w)) ⇒ wrong_hand)
    ∷ (is_leased p.queue ⇒ queue_leased)
    ∷ (is_empty p.buffer ⇒ nothing_buffered)
    ∷ []
-- apply 1, 17, 20, then fate 2 is no word, then 19, which with fate 1 is no word
conditions (Apply w fate) lent p =
    (not (below w worker_count && good_fate fate) ⇒ out_of_range)
    ∷ (not (full (p.hands (nat_of w))) || replied (p.hands (nat_of w)) ⇒ wrong_hand)
    ∷ (not p.near ⇒ store_away)
    ∷ (same_case fate_number (fate_of fate) arrives && no_room (nat_of w) p ⇒ rows_full)
    ∷ []
-- delete 1, 17
conditions (Delete w) lent p =
    (not (below w worker_count) ⇒ out_of_range)
    ∷ (not (full (p.hands (nat_of w)) && replied (p.hands (nat_of w))) ⇒ wrong_hand)
    ∷ []
-- cut 1
conditions (Cut w) lent p = (not (below w worker_count) ⇒ out_of_range) ∷ []
-- sweep 20
conditions Sweep lent p = (not p.near ⇒ store_away) ∷ []
-- store 1
conditions (Store n) lent p = (not (good_store_mark n) ⇒ out_of_range) ∷ []
-- report 2, 3
conditions (Report s) lent p =
    (not (is_slot s p.slots) ⇒ no_slot)
    ∷ ((session_at s p).doomed ⇒ was_doomed)
    ∷ []
