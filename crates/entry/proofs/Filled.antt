-- Which answers are a read's that is not refused: of a read one that is no refusal, of another call none. What a call has found, with these.
use mathlib.Core.Path.{◌≡◌, refl, sym, ◌∙◌, ap, subst}
use mathlib.Core.Logic.{◌⊎◌, inl, inr, ⊎_elim}
use mathlib.Core.Bool.{Bool, true, false, true≢false, cond}
use mathlib.Core.List.{List}
use Prim.Native.Nat.{ℕ, ◌*◌}
use lib.ListN.{length}
use Rattle.std.specs.Prelude.{Result, Ok, Err, IfOk}
use Rattle.std.specs.Result.{is_err}
use Rattle.rules.specs.Limits.{words_per_field}
use Rattle.cache.specs.cached.View.{view_cached}
use lib.Dec.{eqb}
use lib.IntN.{ℤ}
use Rattle.rules.specs.Calls.{Call, call_number}
use Rattle.rules.specs.Calls as C
use Rattle.answers.specs.View.{view_answer, is_refused}
use Rattle.answers.specs.Own.{is_answer_of}
use Rattle.answers.specs.declared.Mark.{Mark}
use Rattle.answers.specs.declared.Answer.{Answer}
use Rattle.answers.specs.declared.Refusal.{Refusal}
use Rattle.answers.specs.declared.Answer.TheVariants.{Done, Begun, Read, Changed, Committed, Advanced, Taken, Applied, Deleted, Swept, Reported}
use Rattle.call_read_shown.specs.values.Shown.{shown_in}
use Rattle.call_read_shown.specs.declared.Marked.{Marked}
use Rattle.call_read.specs.Shows as R
use Rattle.call_read.specs.Shows.{answer_of}
use Rattle.entry.specs.RanAll.{is_read}

read_or_not : (a : Result Answer Refusal) → ((m : Mark) × (a ≡ Ok (Read m))) ⊎ (is_read a ≡ false)
read_or_not (Err r) = inr refl
read_or_not (Ok Done) = inr refl
read_or_not (Ok (Begun n)) = inr refl
read_or_not (Ok (Read m)) = inl (m, refl)
read_or_not (Ok (Changed n)) = inr refl
read_or_not (Ok (Committed n)) = inr refl
read_or_not (Ok (Advanced t)) = inr refl
read_or_not (Ok (Taken n)) = inr refl
read_or_not (Ok (Applied r)) = inr refl
read_or_not (Ok (Deleted b)) = inr refl
read_or_not (Ok (Swept n)) = inr refl
read_or_not (Ok (Reported a b c)) = inr refl

-- an answer that is no read of any mark
pub unless_read : (a : Result Answer Refusal) → ((m : Mark) → a ≡ Ok (Read m) → ⊥) → is_read a ≡ false
unless_read a never = ⊎_elim (λ x. absurd (never x.0 x.1)) (λ e. e) (read_or_not a)

pub refused_unread : (a : Result Answer Refusal) → is_refused (view_answer a) ≡ true → is_read a ≡ false
refused_unread a h = unless_read a (λ m e. true≢false (sym h ∙ ap (λ x. is_refused (view_answer x)) e))

-- an answer of any call but read
pub own_unread : (c : Call) → eqb (call_number c) 4 ≡ false → (a : Result Answer Refusal) → is_answer_of c a ≡ true → is_read a ≡ false
own_unread c n a h = unless_read a (λ m e. true≢false (sym h ∙ ap (is_answer_of c) e ∙ n))

-- and one of a read that is not refused
pub own_read : (s k : ℤ) (a : Result Answer Refusal) → is_answer_of (C.Read s k) a ≡ true → is_refused (view_answer a) ≡ false → is_read a ≡ true
own_read s k (Err r) h f = absurd (true≢false f)
own_read s k (Ok (Read m)) h f = refl
own_read s k (Ok Done) h f = absurd (true≢false (sym h))
own_read s k (Ok (Begun n)) h f = absurd (true≢false (sym h))
own_read s k (Ok (Changed n)) h f = absurd (true≢false (sym h))
own_read s k (Ok (Committed n)) h f = absurd (true≢false (sym h))
own_read s k (Ok (Advanced t)) h f = absurd (true≢false (sym h))
own_read s k (Ok (Taken n)) h f = absurd (true≢false (sym h))
own_read s k (Ok (Applied r)) h f = absurd (true≢false (sym h))
own_read s k (Ok (Deleted b)) h f = absurd (true≢false (sym h))
own_read s k (Ok (Swept n)) h f = absurd (true≢false (sym h))
own_read s k (Ok (Reported a b c)) h f = absurd (true≢false (sym h))

-- what a call answers, and what the last read has shown: the words that it leaves, and how many of them it shows
pub record Seen : Type 0 where
  pub answer : Result Answer Refusal
  pub shown : Marked

abbrev pub filled : Seen → List ℤ → List ℤ
filled o lent = cond (is_read o.answer) (shown_in (view_cached o.shown.fields).fields lent) lent

abbrev pub shown_by : Seen → ℕ
shown_by o = cond (is_read o.answer) (words_per_field * length (view_cached o.shown.fields).fields) 0

-- it is a read that has found r
abbrev pub Carries : Result Marked Refusal → Seen → Type 0
Carries (Ok m) o = (o.answer ≡ Ok (Read m.mark)) × (o.shown ≡ m)
Carries (Err r) o = o.answer ≡ Err r

pub carries_ok : (r : Result Marked Refusal) (m : Marked) (o : Seen) → r ≡ Ok m → o.answer ≡ Ok (Read m.mark) → o.shown ≡ m → Carries r o
carries_ok r m o e a s = rw e (a, s)

pub carries_err : (r : Result Marked Refusal) (x : Refusal) (o : Seen) → r ≡ Err x → o.answer ≡ Err x → Carries r o
carries_err r x o e a = rw e a

pub carries_answer : (r : Result Marked Refusal) (o : Seen) → Carries r o → o.answer ≡ answer_of r
carries_answer (Ok m) o h = h.0
carries_answer (Err r) o h = h

pub carries_filled : (r : Result Marked Refusal) (o : Seen) → Carries r o → (lent : List ℤ) → filled o lent ≡ R.filled r lent
carries_filled (Ok m) o h lent = rw (h.0, h.1) refl
carries_filled (Err r) o h lent = rw h refl

pub carries_shown : (r : Result Marked Refusal) (o : Seen) → Carries r o → shown_by o ≡ R.shown_by r
carries_shown (Ok m) o h = rw (h.0, h.1) refl
carries_shown (Err r) o h = rw h refl

-- what holds of what it found holds of what it shows
pub carried : (P : Marked → Type 0) (r : Result Marked Refusal) (o : Seen) → Carries r o → IfOk r P → is_refused (view_answer o.answer) ≡ false → P o.shown
carried P (Ok m) o h x f = subst P (sym h.1) x
carried P (Err r) o h x f = absurd (true≢false (rw h at f))

-- ── the tests of an answer in the loop ──
pub refused_by : (a : Result Answer Refusal) (b : Bool) → b ≡ is_err a → b ≡ is_refused (view_answer a)
refused_by (Ok a) b e = e
refused_by (Err r) b e = e
