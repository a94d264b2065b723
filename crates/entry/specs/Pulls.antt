-- A recalled lot leaves the tally whole, of the code: what is claimed of calls that are run through the entry. Its proofs are proofs/Pulls,
-- from the rules' theorem and the entry's promise alone.
use Rattle.std.specs.Prelude.{ℕ, ◌≡◌, true, List, ◌++◌, pos, ℤ, Result}
use Rattle.rules.specs.Changes.{pull, kind_number, becomes, place_of}
use Rattle.rules.specs.Tables as M
use Rattle.rules.specs.Reading.{seen}
use Rattle.rules.specs.Calls.{fine}
use Rattle.rules.specs.Conditions.{own}
use Rattle.rules.specs.History.{whole, empty_history}
use Rattle.rules.specs.Claims.{shown_to}
use Rattle.rules.specs.Demand3.{FirstPart}
use Rattle.rules.specs.Pulls.{Pulls, LacksAll, loads_of, bookings}
use Rattle.plant.specs.View.{view_plant, kept_plant}
use Rattle.plant.specs.declared.Plant.{Plant}
use Rattle.answers.specs.View.{view_answer}
use Rattle.answers.specs.declared.Answer.{Answer}
use Rattle.answers.specs.declared.Refusal.{Refusal}
use Rattle.calls.specs.declared.Call.TheVariants.{Load, Change}
use Rattle.entry.specs.Ran.{Ran}
use Rattle.entry.specs.Demand3.{Event, Runs, left, noted, exchanges_of}

-- ── of one call, on any plant ──
-- what a load's pull makes of a field in the store: just the members that equal v go
abbrev pub LoadPulls : Type 0
LoadPulls =
    (d f v : ℤ) (lent : List ℤ) (p : Plant) (a : Result Answer Refusal) (words : List ℤ) (q : Plant) → Ran (Load d f (pos (kind_number pull)) v) lent p a words q
    → (ns : List ℕ) → view_answer a ≡ fine ns → Pulls v ((view_plant p).store (place_of d f)) (becomes ((view_plant q).store (place_of d f)))

-- and a change's pull of what its session sees
abbrev pub ChangePulls : Type 0
ChangePulls =
    (s d f v : ℤ) (lent : List ℤ) (p : Plant) (a : Result Answer Refusal) (words : List ℤ) (q : Plant) → Ran (Change s d f (pos (kind_number pull)) v) lent p a words q
    → (ns : List ℕ) → view_answer a ≡ fine ns
    → Pulls v (seen (view_plant p) (own s (view_plant p)) (place_of d f)) (becomes (seen (view_plant q) (own s (view_plant q)) (place_of d f)))

-- ── after every list of calls from the empty plant ──
-- what a session is shown (Demands.ReadsShow) lacks each lot that a load, a committed session or itself withdrew, and that none of these put back
abbrev pub ReadsLack : Type 0
ReadsLack =
    (p : Plant) → view_plant p ≡ M.setup → kept_plant p ≡ true → (es : List Event) → Runs p es
    → (s : ℤ) → LacksAll (bookings (exchanges_of es) (noted es empty_history) s) (shown_to (noted es empty_history) s)

-- and so does the store, which holds the loads and a first part of the committed sessions, whichever part that is
abbrev pub StoreLacks : Type 0
StoreLacks =
    (p : Plant) → view_plant p ≡ M.setup → kept_plant p ≡ true → (es : List Event) → Runs p es
    → (part : FirstPart (noted es empty_history) (view_plant (left p es)).store)
    → LacksAll (loads_of (exchanges_of es) ++ whole part.done) (view_plant (left p es)).store
