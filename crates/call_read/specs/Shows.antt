-- What a read shows of any plant, as code finds it, with its mark. On a kept plant these are the fields that the session sees.
use Rattle.std.specs.Prelude.{ℕ, ◌*◌, ◌≡◌, true, false, List, [], ◌∷◌, ℤ, pos, length, Result, Ok, Err, IfOk}
use Rattle.std.proofs.Math.Option.{Option, none, some}
use Rattle.rules.specs.Limits.{key_count, words_per_field}
use Rattle.rules.specs.Values.{Field}
use Rattle.rules.specs.Refusals as R
use Rattle.rules.specs.Refusals.{first}
use Rattle.rules.specs.Tables as M
use Rattle.rules.specs.Calls.{Read, mark_number, Answer}
use Rattle.rules.specs.Conditions.{conditions}
use Rattle.rules.specs.Effects.{mark}
use Rattle.arguments.specs.Numbers.{session_number, index_number}
use Rattle.cache.specs.cached.View.{view_cached}
use Rattle.cache.specs.cached.Form.{cached_form}
use Rattle.plant.specs.View.{view_plant, plant_form, kept_plant}
use Rattle.plant.specs.declared.Plant.{Plant}
use Rattle.answers.specs.View.{view_mark, view_answer, answer_by}
use Rattle.answers.specs.Own.{is_answer_of}
use Rattle.answers.specs.declared.Refusal.{Refusal}
use Rattle.answers.specs.declared.Answer as A
use Rattle.answers.specs.declared.Answer.TheVariants as answer
use Rattle.promises.specs.Promise.{result, Answers}
use Rattle.sight.specs.Sight.{at_hand}
use Rattle.call_read_shown.specs.values.Shown.{shown_in}
use Rattle.call_read_shown.specs.Fields.{shown_fields}
use Rattle.call_read_shown.specs.declared.Marked.{Marked}

abbrev pub key_at : ℤ → ℕ
key_at key = index_number key key_count

-- the fields that a read shows
abbrev pub fields_of : ℤ → ℤ → Plant → List Field
fields_of session key p = shown_fields (session_number session) (key_at key) (view_plant p)

abbrev pub Shows : ℤ → ℤ → Plant → Marked → Type 0
Shows session key p m = (view_mark m.mark ≡ mark (session_number session) (key_at key) (view_plant p)) × (view_cached m.fields ≡ record { key = key_at key; fields = fields_of session key p })

-- the words of a read that meets this refusal, or none
abbrev pub words_by : Option R.Refusal → List Field → List ℤ → List ℤ
words_by none fs lent = shown_in fs lent
words_by (some r) fs lent = lent

-- the answer and the words as code finds them, of any plant: while the store is away, of what is at hand
unfoldable pub found_answer : ℤ → ℤ → List ℤ → M.Plant → Answer
found_answer session key lent p = answer_by (first (conditions (Read (pos (session_number session)) (pos (key_at key))) lent p)) (mark_number (mark (session_number session) (key_at key) p) ∷ [])

unfoldable pub found_words : ℤ → ℤ → List ℤ → M.Plant → List ℤ
found_words session key lent p = words_by (first (conditions (Read (pos (session_number session)) (pos (key_at key))) lent p)) (shown_fields (session_number session) (key_at key) p) lent

-- what a read answers
abbrev pub answer_of : Result Marked Refusal → Result A.Answer Refusal
answer_of (Ok m) = Ok (answer.Read m.mark)
answer_of (Err r) = Err r

-- the lent words after it: it shows its fields in them, a refusal leaves them
abbrev pub filled : Result Marked Refusal → List ℤ → List ℤ
filled (Ok m) lent = shown_in (view_cached m.fields).fields lent
filled (Err r) lent = lent

-- and how many words that takes
abbrev pub shown_by : Result Marked Refusal → ℕ
shown_by (Ok m) = words_per_field * length (view_cached m.fields).fields
shown_by (Err r) = 0

-- what is found for any words of that number
pub record Found (session key : ℤ) (p : Plant) (lent : ℕ) (o : Result Marked Refusal) : Type 0 where
  pub away : p.near ≡ false → (words : List ℤ) → length words ≡ lent → (view_answer (answer_of o) ≡ found_answer session key words (at_hand p)) × (filled o words ≡ found_words session key words (at_hand p))
  pub answers : (words : List ℤ) → length words ≡ lent → Answers (Read session key) words p (answer_of o)
  pub fills : (words : List ℤ) → length words ≡ lent → kept_plant p ≡ true → filled o words ≡ (result (Read session key) words p).words
  pub own : is_answer_of (Read session key) (answer_of o) ≡ true
  pub shows : IfOk o (λ m. Shows session key p m)
  pub form : plant_form p ≡ true → IfOk o (λ m. cached_form m.fields ≡ true)
