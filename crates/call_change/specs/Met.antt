-- The answer of a change, as code finds it.
use Rattle.std.specs.Prelude.{ℕ, suc, ◌&&◌, not, List, [], ◌∷◌, ◌++◌, leb, ℤ, length}
use Rattle.std.proofs.Math.Option.{Option}
use Rattle.rules.specs.Limits.{change_limit}
use Rattle.rules.specs.Values.{nat_of, Field}
use Rattle.rules.specs.Refusals.{Refusal, out_of_range, changes_full, exclusive_elsewhere, store_away, ◌⇒◌, first}
use Rattle.rules.specs.Changes.{Update, is_set, meets, place_of, update_of}
use Rattle.rules.specs.Tables.{Plant, session, others_exclusive}
use Rattle.rules.specs.Reading.{known}
use Rattle.rules.specs.Calls.{Answer}
use Rattle.rules.specs.Conditions.{good_place, good_change}
use Rattle.arguments.specs.Numbers.{session_number}
use Rattle.answers.specs.View.{answer_by}
use Rattle.caller.specs.Standing.{standing}
use Rattle.sight.specs.Value.{value}

-- the rules' conditions from 5 on, of session n with its own changes, where the change meets this field
abbrev pub conditions_by : Field → Plant → ℕ → List Update → Update → List (Option Refusal)
conditions_by f p n own c =
    (leb change_limit (length own) ⇒ changes_full)
    ∷ (others_exclusive n c.at.document p.slots ⇒ exclusive_elsewhere)
    ∷ (not (is_set c.kind) && not (known p own c.at) ⇒ store_away)
    ∷ meets c f
    ∷ []

abbrev pub later_conditions : Plant → ℕ → List Update → Update → List (Option Refusal)
later_conditions p n own c = conditions_by (value p own c.at) p n own c

unfoldable pub later_answer : Plant → ℕ → List Update → Update → Answer
later_answer p n own c = answer_by (first (later_conditions p n own c)) (suc (length own) ∷ [])

-- the whole answer, of any plant: while the store is away, of what is at hand
unfoldable pub found_answer : (session document field kind value : ℤ) → Plant → Answer
found_answer s d f k v p =
    answer_by
    (first (
    (not (good_place d f && good_change k v) ⇒ out_of_range)
    ∷ standing (session_number s) p.slots
    ++ later_conditions p (session_number s) (session (session_number s) p.slots).changes (update_of (place_of d f) (nat_of k) v)))
    (suc (length (session (session_number s) p.slots).changes) ∷ [])
