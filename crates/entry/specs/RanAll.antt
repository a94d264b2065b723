-- What is promised of one call on any plant, and of a list of calls that are run one after the other.
use Rattle.std.specs.Prelude.{ℕ, ◌*◌, ◌≡◌, Bool, true, false, List, [], ◌∷◌, ℤ, length, take, drop, Result, Ok, Err}
use Rattle.rules.specs.Limits.{words_per_field}
use Rattle.plant.specs.View.{plant_form, kept_plant}
use Rattle.plant.specs.declared.Plant.{Plant}
use Rattle.answers.specs.View.{view_answer, is_refused}
use Rattle.answers.specs.Own.{is_answer_of}
use Rattle.answers.specs.declared.Refusal.{Refusal}
use Rattle.answers.specs.declared.Answer as A
use Rattle.answers.specs.declared.Answer.TheVariants as answer
use Rattle.calls.specs.View.{view_call}
use Rattle.calls.specs.declared.Call.{Call}
use Rattle.calls.specs.declared.Call.TheVariants.{Read}
use Rattle.call_read_shown.specs.values.Shown.{shown_in}
use Rattle.call_read.specs.Shows.{fields_of}
use Rattle.entry.specs.Refused.{RefusalLeaves}
use Rattle.entry.specs.Ran.{Ran}
use Rattle.entry.specs.declared.Told.{Told}

-- the answer of a read that is not refused
abbrev pub is_read : Result A.Answer Refusal → Bool
is_read (Err r) = false
is_read (Ok answer.Done) = false
is_read (Ok (answer.Begun n)) = false
is_read (Ok (answer.Read m)) = true
is_read (Ok (answer.Changed n)) = false
is_read (Ok (answer.Committed n)) = false
is_read (Ok (answer.Advanced t)) = false
is_read (Ok (answer.Taken n)) = false
is_read (Ok (answer.Applied r)) = false
is_read (Ok (answer.Deleted b)) = false
is_read (Ok (answer.Swept n)) = false
is_read (Ok (answer.Reported a b c)) = false

-- a call, with these words lent to it: the promises of `run`; and of any plant, what it shows in them, and in how many
pub record Entered (c : Call) (lent : List ℤ) (p : Plant) (t : Told) (words : List ℤ) (q : Plant) : Type 0 where
  pub runs : kept_plant p ≡ true → Ran c lent p t.answer words q
  pub own : is_answer_of (view_call c) t.answer ≡ true
  pub form : plant_form p ≡ true → plant_form q ≡ true
  pub refused : RefusalLeaves p t.answer q
  -- an answered read its fields, eight words for each
  pub shows : (s k : ℤ) → c ≡ Read s k → is_refused (view_answer t.answer) ≡ false → (words ≡ shown_in (fields_of s k p) lent) × (t.shown ≡ words_per_field * length (fields_of s k p))
  -- any other answer nothing
  pub leaves : is_read t.answer ≡ false → (words ≡ lent) × (t.shown ≡ 0)

-- each call is run on the plant that the one before left, with the next n words lent to it; those past them are as they were
abbrev pub RanAll : ℕ → Plant → List Call → List Told → List ℤ → List ℤ → Plant → Type 0
RanAll n p [] [] lent words q = (q ≡ p) × (words ≡ lent)
RanAll n p [] (t ∷ ts) lent words q = ⊥
RanAll n p (c ∷ cs) [] lent words q = ⊥
RanAll n p (c ∷ cs) (t ∷ ts) lent words q = (m : Plant) × (Entered c (take n lent) p t (take n words) m × RanAll n m cs ts (drop n lent) (drop n words) q)
