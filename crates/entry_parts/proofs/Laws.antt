-- What an arm of the match knows of the call, and what it promises with that.
use Prim.Native.Nat.{ℕ}
use mathlib.Core.Path.{◌≡◌, refl, sym, ◌∙◌, subst}
use mathlib.Core.Bool.{true, false, true≢false}
use mathlib.Core.Option.{none}
use mathlib.Core.List.{List, [], ◌∷◌}
use lib.IntN.{ℤ}
use types.Run.{OneOf, miss}
use denote.Enum.Declared.{tag_of}
use Rattle.rules.specs.Step.{session_of, ending}
use Rattle.calls.specs.View.{view_call}
use Rattle.calls.specs.declared.Call.{Call}
use Rattle.calls.specs.declared.Call.TheVariants.{Load, Map, Begin, Read, Change, Commit, Abandon, Advance, Take, Apply, Delete, Cut, Sweep, Store, Report}
use Rattle.calls.specs.contracts.Call.{the_type}
use Rattle.sessions.specs.declared.Sessions.{Sessions}
use Rattle.plant.specs.View.{view_plant, plant_form, kept_plant}
use Rattle.plant.specs.With.{with_sessions}
use Rattle.plant.specs.declared.Plant.{Plant}
use Rattle.answers.specs.Own.{is_answer_of}
use Rattle.std.specs.Prelude.{Result}
use Rattle.answers.specs.declared.Answer.{Answer}
use Rattle.answers.specs.declared.Refusal.{Refusal}
use Rattle.promises.specs.Promise.{Answers}
use Rattle.entry_parts.specs.Session.{has_session}

-- ── which calls are a session's ──
abbrev of_sessions : List ℕ
of_sessions = 3 ∷ 4 ∷ 5 ∷ 6 ∷ 14 ∷ []

abbrev of_none : List ℕ
of_none = 0 ∷ 1 ∷ 2 ∷ 7 ∷ 8 ∷ 9 ∷ 10 ∷ 11 ∷ 12 ∷ 13 ∷ []

has_session_lem : (c : Call) → OneOf of_sessions (tag_of the_type c) → has_session c ≡ true
has_session_lem (Load d f k v) h = absurd (miss of_sessions 0 tt h)
has_session_lem (Map k n d1 f1 d2 f2 d3 f3 d4 f4) h = absurd (miss of_sessions 1 tt h)
has_session_lem Begin h = absurd (miss of_sessions 2 tt h)
has_session_lem (Read s k) h = refl
has_session_lem (Change s d f k v) h = refl
has_session_lem (Commit s) h = refl
has_session_lem (Abandon s) h = refl
has_session_lem (Advance n) h = absurd (miss of_sessions 7 tt h)
has_session_lem (Take w) h = absurd (miss of_sessions 8 tt h)
has_session_lem (Apply w f) h = absurd (miss of_sessions 9 tt h)
has_session_lem (Delete w) h = absurd (miss of_sessions 10 tt h)
has_session_lem (Cut w) h = absurd (miss of_sessions 11 tt h)
has_session_lem Sweep h = absurd (miss of_sessions 12 tt h)
has_session_lem (Store n) h = absurd (miss of_sessions 13 tt h)
has_session_lem (Report s) h = refl

pub has_none : (c : Call) → OneOf of_none (tag_of the_type c) → has_session c ≡ false
has_none (Load d f k v) h = refl
has_none (Map k n d1 f1 d2 f2 d3 f3 d4 f4) h = refl
has_none Begin h = refl
has_none (Read s k) h = absurd (miss of_none 3 tt h)
has_none (Change s d f k v) h = absurd (miss of_none 4 tt h)
has_none (Commit s) h = absurd (miss of_none 5 tt h)
has_none (Abandon s) h = absurd (miss of_none 6 tt h)
has_none (Advance n) h = refl
has_none (Take w) h = refl
has_none (Apply w f) h = refl
has_none (Delete w) h = refl
has_none (Cut w) h = refl
has_none Sweep h = refl
has_none (Store n) h = refl
has_none (Report s) h = absurd (miss of_none 14 tt h)

in_none : (c : Call) → has_session c ≡ false → session_of (view_call c) ≡ none
in_none (Load d f k v) h = refl
in_none (Map k n d1 f1 d2 f2 d3 f3 d4 f4) h = refl
in_none Begin h = refl
in_none (Read s k) h = absurd (true≢false h)
in_none (Change s d f k v) h = absurd (true≢false h)
in_none (Commit s) h = absurd (true≢false h)
in_none (Abandon s) h = absurd (true≢false h)
in_none (Advance n) h = refl
in_none (Take w) h = refl
in_none (Apply w f) h = refl
in_none (Delete w) h = refl
in_none (Cut w) h = refl
in_none Sweep h = refl
in_none (Store n) h = refl
in_none (Report s) h = absurd (true≢false h)

-- ── an answer is the call's own ──
pub own : (x y : Call) → x ≡ y → (a : Result Answer Refusal) → is_answer_of (view_call y) a ≡ true → is_answer_of (view_call x) a ≡ true
own x y e a h = subst (λ c. is_answer_of (view_call c) a ≡ true) (sym e) h

-- ── what a plain call answers ──
abbrev Plainly : Plant → Result Answer Refusal → Call → Type 0
Plainly p a c = has_session c ≡ false → (lent : List ℤ) → Answers (view_call c) lent p a

pub plainly : (p : Plant) (x y : Call) → x ≡ y → (a : Result Answer Refusal) → ((lent : List ℤ) → Answers (view_call y) lent p a) × (is_answer_of (view_call y) a ≡ true) → Plainly p a x × (has_session x ≡ false → is_answer_of (view_call x) a ≡ true)
plainly p x y e a h = (subst (Plainly p a) (sym e) (λ t. h.0), λ t. own x y e a h.1)

pub not_plain : (p : Plant) (c : Call) (a : Result Answer Refusal) → OneOf of_sessions (tag_of the_type c) → Plainly p a c × (has_session c ≡ false → is_answer_of (view_call c) a ≡ true)
not_plain p c a h = (λ t. absurd (true≢false (sym (has_session_lem c h) ∙ t)), λ t. absurd (true≢false (sym (has_session_lem c h) ∙ t)))

-- ── what a refusal leaves of the sessions ──
abbrev Ended : Plant → Sessions → Call → Type 0
Ended p t c = (kept_plant p ≡ true → view_plant (with_sessions p t) ≡ ending (session_of (view_call c)) (view_plant p)) × (plant_form p ≡ true → plant_form (with_sessions p t) ≡ true)

pub ends_it : (p : Plant) (x y : Call) → x ≡ y → (t : Sessions) → Ended p t y → Ended p t x
ends_it p x y e t h = subst (Ended p t) (sym e) h

pub ends_none : (p : Plant) (c : Call) → OneOf of_none (tag_of the_type c) → Ended p p.sessions c
ends_none p c h = (λ k. rw (in_none c (has_none c h)) refl, λ f. f)
