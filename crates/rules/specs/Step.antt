-- A call: refused by its first condition that holds, or accepted.
use Rattle.std.specs.Prelude.{◌*◌, ◌+◌, suc, ℕ, Bool, ◌&&◌, cond, false, not, true, List, [], ◌++◌, ◌∷◌, map, drop, length, take, ℤ}
use Rattle.std.proofs.Math.Option.{Option, none, some}
use Rattle.rules.specs.Lists.{keep, case_of, bit}
use Rattle.rules.specs.Limits.{words_per_field}
use Rattle.rules.specs.Refusals.{Refusal, ends_session, first}
use Rattle.rules.specs.Values.{nat_of, show_all}
use Rattle.rules.specs.Changes.{place_of, update_of}
use Rattle.rules.specs.Tables.{is_held, is_exclusive, documents, Session, freed, is_buffered, oldest, handed, Plant, with_slots, with_near}
use Rattle.rules.specs.Reading.{seen}
use Rattle.rules.specs.Calls.{places_of, fate_of, Call, Load, Map, Begin, Read, Change, Commit, Abandon, Advance, Take, Apply, Delete, Cut, Sweep, Store, Report, mark_number, reply_number, refused, fine, Result}
use Rattle.rules.specs.Conditions.{session_at, own, conditions}
use Rattle.rules.specs.Effects.{loaded, mapped, begun, mark, after_read, changed, committed, abandoned, advanced, taken, applied, reply_to, deleted, cut, removed, swept}

abbrev pub count : (ℕ → Bool) → List ℕ → ℕ
count f l = length (keep f l)

abbrev pub held_shared : Session → ℕ → Bool
held_shared s d = is_held (s.lease d) && not (is_exclusive (s.lease d))

abbrev pub held_exclusive : Session → ℕ → Bool
held_exclusive s d = is_exclusive (s.lease d)

unfoldable pub accepted : Call → List ℤ → Plant → Result
accepted (Load d f k v) lent p = record { answer = fine []; words = lent; plant = loaded (update_of (place_of d f) (nat_of k) v) p }
accepted (Map k n m) lent p = record { answer = fine []; words = lent; plant = mapped (nat_of k) (take (nat_of n) (places_of m)) p }
accepted Begin lent p = record { answer = fine (p.next ∷ []); words = lent; plant = begun p }
accepted (Read s k) lent p =
    record {
      answer = fine (mark_number (mark (nat_of s) (nat_of k) p) ∷ []);
      words = show_all (map (seen p (own s p)) (p.keys (nat_of k))) ++ drop (words_per_field * length (p.keys (nat_of k))) lent;
      plant = after_read (nat_of s) (nat_of k) p;
    }
accepted (Change s d f k v) lent p =
    record { answer = fine (suc (length (own s p)) ∷ []); words = lent; plant = changed (nat_of s) (update_of (place_of d f) (nat_of k) v) p }
accepted (Commit s) lent p =
    record { answer = fine (length (committed (nat_of s) p).buffer ∷ []); words = lent; plant = committed (nat_of s) p }
accepted (Abandon s) lent p = record { answer = fine []; words = lent; plant = abandoned (nat_of s) p }
accepted (Advance n) lent p = record { answer = fine ((p.clock + nat_of n) ∷ []); words = lent; plant = advanced (nat_of n) p }
accepted (Take w) lent p = record { answer = fine (oldest p.buffer ∷ []); words = lent; plant = taken (nat_of w) p }
accepted (Apply w fate) lent p =
    record { answer = fine (reply_number (reply_to (fate_of fate) (nat_of w) p) ∷ []); words = lent; plant = applied (fate_of fate) (nat_of w) p }
accepted (Delete w) lent p =
    record { answer = fine (bit (is_buffered (handed (p.hands (nat_of w))) p.buffer) ∷ []); words = lent; plant = deleted (nat_of w) p }
accepted (Cut w) lent p = record { answer = fine []; words = lent; plant = cut (nat_of w) p }
accepted Sweep lent p = record { answer = fine (length (removed p) ∷ []); words = lent; plant = swept p }
accepted (Store n) lent p = record { answer = fine []; words = lent; plant = with_near (case_of bit false (true ∷ false ∷ []) (nat_of n)) p }
accepted (Report s) lent p =
    record {
      answer = fine (count (held_shared (session_at s p)) documents ∷ count (held_exclusive (session_at s p)) documents ∷ length (own s p) ∷ []);
      words = lent;
      plant = p;
    }

abbrev pub session_of : Call → Option ℕ
session_of (Load d f k v) = none
session_of (Map k n m) = none
session_of Begin = none
session_of (Read s k) = some (nat_of s)
session_of (Change s d f k v) = some (nat_of s)
session_of (Commit s) = some (nat_of s)
session_of (Abandon s) = some (nat_of s)
session_of (Advance n) = none
session_of (Take w) = none
session_of (Apply w fate) = none
session_of (Delete w) = none
session_of (Cut w) = none
session_of Sweep = none
session_of (Store n) = none
session_of (Report s) = some (nat_of s)

abbrev pub ending : Option ℕ → Plant → Plant
ending none p = p
ending (some s) p = with_slots (freed s p.slots) p

-- a refused call leaves the plant, but for refusals 3 and 4, which end the session that met them
abbrev pub after_refusal : Call → Refusal → Plant → Plant
after_refusal c r p = cond (ends_session r) (ending (session_of c) p) p

abbrev pub settle : Option Refusal → Call → List ℤ → Plant → Result
settle none c lent p = accepted c lent p
settle (some r) c lent p = record { answer = refused r; words = lent; plant = after_refusal c r p }

unfoldable pub step : Call → List ℤ → Plant → Result
step c lent p = settle (first (conditions c lent p)) c lent p
