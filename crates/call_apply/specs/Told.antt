-- What the parts of apply promise, table by table.
use Rattle.std.specs.Prelude.{◌≡◌, ℕ, Bool, true, false, ◌&&◌, cond, not, List, [], ◌∷◌, leb, length, ℤ, Result, Ok, Err}
use Rattle.rules.specs.Limits.{row_limit}
use Rattle.rules.specs.Lists.{has}
use Rattle.rules.specs.Refusals.{rows_full}
use Rattle.rules.specs.Calls as C
use Rattle.rules.specs.Calls.{Answer, refused, fine, fate_of, reply_number, no_word, done, done_before}
use Rattle.rules.specs.Conditions.{good_fate}
use Rattle.answers.specs.declared.Refusal.{Refusal}
use Rattle.answers.specs.declared.Refusal.TheVariants.{OutOfRange}
use Rattle.call_apply.specs.declared.Fate.{Fate}
use Rattle.call_apply.specs.declared.Fate.TheVariants.{Arrives, Lost, Unreached}

abbrev pub view_fate : Fate → C.Fate
view_fate Arrives = C.arrives
view_fate Lost = C.lost
view_fate Unreached = C.unreached

-- the fate that a number names
abbrev pub FateOf : ℤ → Result Fate Refusal → Type 0
FateOf z (Ok f) = (good_fate z ≡ true) × (view_fate f ≡ fate_of z)
FateOf z (Err r) = (good_fate z ≡ false) × (r ≡ OutOfRange)

-- the rows are full and the session has none: the rules' `no_room`
abbrev pub no_row_for : List ℕ → ℕ → Bool
no_row_for rows n = leb row_limit (length rows) && not (has n rows)

-- of a session that is sent to a store that is near
abbrev pub told : List ℕ → ℕ → C.Fate → Answer
told rows n C.arrives = cond (no_row_for rows n) (refused rows_full) (fine (reply_number (cond (has n rows) done_before done) ∷ []))
told rows n C.lost = fine (reply_number no_word ∷ [])
told rows n C.unreached = fine (reply_number no_word ∷ [])
