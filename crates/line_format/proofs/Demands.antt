-- Demands 1 and 2 of lines: what is printed tells what the call answered, and the rules speak of that.
use Prim.Native.Nat.{◌*◌, ◌+◌, ◌/◌, ◌%◌, zero, suc, ℕ}
use native.Mathlib.Omega.{arith}
use mathlib.Core.Path.{◌≡◌, ◌∙◌, ap, refl, subst, sym}
use mathlib.Core.Logic.{◌⊎◌, inl, inr}
use mathlib.Core.Bool.{Bool, cond, false, true}
use mathlib.Core.Option.{Option, none, some}
use mathlib.Core.List.{List, [], ◌++◌, ◌∷◌, append_assoc, append-nil, map}
use lib.ListN.{drop, length, replicate, take}
use lib.Seq.{drop-nil, take_at}
use lib.Dec.{ltb}
use lib.IntN.{pos, ℤ}
use borrow.Author.Tests.{ne_eqb, not-false}
use Rattle.rules.specs.Lists.{is_case, case_of}
use Rattle.rules.specs.Limits.{key_count, words_per_field}
use Rattle.rules.specs.Refusals.{Refusal, out_of_range, no_slot, was_doomed, exclusive_elsewhere, changes_full, wrong_kind, seventh_member, sum_too_large, key_undefined, slots_full, numbers_spent, session_begun, key_defined, bad_places, buffer_full, queue_leased, wrong_hand, nothing_buffered, rows_full, store_away, clock_end, few_words, bad_line, refusal_number}
use Rattle.rules.specs.Values.{below, nat_of, show_all}
use Rattle.rules.specs.Changes.{follow}
use Rattle.rules.specs.Tables.{Plant}
use Rattle.rules.specs.Calls.{Call, Read, Answer, refused, fine, Result}
use Rattle.rules.specs.Conditions.{conditions}
use Rattle.rules.specs.Step.{accepted, session_of, step}
use Rattle.rules.specs.History.{changes_of, whole_history, Turn, World, turns, initial}
use Rattle.rules.proofs.Laws.{by_case, not_met}
use Rattle.rules.proofs.Steps.{step-fine, fine-none, refused_is, refusals_leave_lem}
use Rattle.rules.proofs.Sessionless.{no_session_lem}
use Rattle.rules.proofs.Words.{length-show_all}
use Rattle.rules.proofs.Kept.{initial_kept}
use Rattle.rules.proofs.InvariantSteps.{inv_turns, inv_initial}
use Rattle.rules.proofs.Prepare.{turns_append}
use Rattle.rules.proofs.Demand2.{reads_show_lem}
use Rattle.rules.proofs.Frames.{commit_leaves_store_lem}
use Rattle.line_format.specs.Bytes.{newline, space, minus, digit_zero, base, call_width, number_width}
use Rattle.line_format.specs.Columns.{before, column, digits_in, is_negative, magnitude, natural_in}
use Rattle.line_format.specs.Lines.{Said, says, faulty, said, columns, answer_line}
use Rattle.line_format.specs.Serving.{lent_words, places_shown, ended, performed, serve, served, lines_of}
use Rattle.line_format.specs.Demand3.{turns_of_line}
use Rattle.line_format.specs.Feeding.{has_end}
use Rattle.line_format.specs.Demands.{first_number, IsAccepted, IsRefused, AnswersDiffer, read_line, LeavesStore, LineMeets, line_leaves, Meets, LinesMeet}
use Rattle.line_format.proofs.Cutting.{no_end_append, lines_line}

-- ── the first columns tell the answer ──
abbrev refusals : List Refusal
refusals = out_of_range ∷ no_slot ∷ was_doomed ∷ exclusive_elsewhere ∷ changes_full ∷ wrong_kind ∷ seventh_member ∷ sum_too_large ∷ key_undefined ∷ slots_full ∷ numbers_spent ∷ session_begun ∷ key_defined ∷ bad_places ∷ buffer_full ∷ queue_leased ∷ wrong_hand ∷ nothing_buffered ∷ rows_full ∷ store_away ∷ clock_end ∷ few_words ∷ bad_line ∷ []

-- the refusal that has a number, if one has it
abbrev numbered : ℕ → Option Refusal
numbered n = cond (is_case refusal_number refusals n) (some (case_of refusal_number bad_line refusals n)) none

abbrev told : Answer → ℕ
told (refused r) = refusal_number r
told (fine ns) = 0

abbrev refusal_in : Answer → Option Refusal
refusal_in (refused r) = some r
refusal_in (fine ns) = none

-- the columns are read back as the answer's number, and the number has one refusal or none
printed : (a : Answer) (shown : List ℤ) → (first_number (answer_line a shown) ≡ some (told a)) × (numbered (told a) ≡ refusal_in a)
unfolding answer_line column natural_in
printed (refused out_of_range) shown = (refl, refl)
printed (refused no_slot) shown = (refl, refl)
printed (refused was_doomed) shown = (refl, refl)
printed (refused exclusive_elsewhere) shown = (refl, refl)
printed (refused changes_full) shown = (refl, refl)
printed (refused wrong_kind) shown = (refl, refl)
printed (refused seventh_member) shown = (refl, refl)
printed (refused sum_too_large) shown = (refl, refl)
printed (refused key_undefined) shown = (refl, refl)
printed (refused slots_full) shown = (refl, refl)
printed (refused numbers_spent) shown = (refl, refl)
printed (refused session_begun) shown = (refl, refl)
printed (refused key_defined) shown = (refl, refl)
printed (refused bad_places) shown = (refl, refl)
printed (refused buffer_full) shown = (refl, refl)
printed (refused queue_leased) shown = (refl, refl)
printed (refused wrong_hand) shown = (refl, refl)
printed (refused nothing_buffered) shown = (refl, refl)
printed (refused rows_full) shown = (refl, refl)
printed (refused store_away) shown = (refl, refl)
printed (refused clock_end) shown = (refl, refl)
printed (refused few_words) shown = (refl, refl)
printed (refused bad_line) shown = (refl, refl)
printed (fine ns) shown = (refl, refl)

from_refusal : (a : Answer) (r : Refusal) → refusal_in a ≡ some r → a ≡ refused r
from_refusal (refused x) r e = let q : x ≡ r = cc in ap refused q
from_refusal (fine ns) r e = let z : ◌≡◌ {A = ℕ} 0 1 = cc in absurd (omega (arith, z))

from_none : (a : Answer) → refusal_in a ≡ none → (ns : List ℕ) × (a ≡ fine ns)
from_none (refused r) e = let z : ◌≡◌ {A = ℕ} 0 1 = cc in absurd (omega (arith, z))
from_none (fine ns) e = (ns, refl)

-- a line with the first columns of another answer's is that answer's
same_answer : (a b : Answer) (shown : List ℤ) → first_number (answer_line a shown) ≡ some (told b) → refusal_in a ≡ refusal_in b
same_answer a b shown e =
    let q = sym (printed a shown).0 ∙ e in
    let n : told a ≡ told b = cc in
    sym (printed a shown).1 ∙ ap numbered n ∙ (printed b shown).1

pub answers_differ : AnswersDiffer
answers_differ =
    record {
      refusal = λ a shown r e. from_refusal a r (same_answer a (refused r) shown e);
      accepted = λ a shown e. from_none a (same_answer a (fine []) shown e);
    }

some_answer : (a : Answer) (shown : List ℤ) → IsAccepted (answer_line a shown) ⊎ ((r : Refusal) × IsRefused r (answer_line a shown))
some_answer (refused r) shown = inr (r, (printed (refused r) shown).0)
some_answer (fine ns) shown = inl (printed (fine ns) shown).0

-- ── an answer's line has no byte 10 in it ──
no_end_spaces : (w : ℕ) → has_end (replicate w space) ≡ false
no_end_spaces zero = refl
no_end_spaces (suc w) = no_end_spaces w

no_end_before : (s : Bool) (w : ℕ) → has_end (before s w) ≡ false
no_end_before s zero = refl
no_end_before true (suc w) = no_end_append (replicate w space) (minus ∷ []) (no_end_spaces w) refl
no_end_before false (suc w) = no_end_append (replicate w space) (space ∷ []) (no_end_spaces w) refl

no_end_digits : (s : Bool) (w n : ℕ) → has_end (digits_in s w n) ≡ false
no_end_digits s zero n = refl
no_end_digits s (suc w) n =
    let front : has_end (cond (ltb n base) (before s w) (digits_in s w (n / base))) ≡ false = by_case (ltb n base) (λ t. rw t (no_end_before s w)) (λ t. rw t (no_end_digits s w (n / base))) in
    no_end_append (cond (ltb n base) (before s w) (digits_in s w (n / base))) ((digit_zero + n % base) ∷ []) front (rw (ne_eqb (digit_zero + n % base) newline (λ e. omega arith)) refl)

no_end_columns : (zs : List ℤ) → has_end (columns zs) ≡ false
unfolding column
no_end_columns [] = refl
no_end_columns (z ∷ zs) = no_end_append (column number_width z) (columns zs) (no_end_digits (is_negative z) number_width (magnitude z)) (no_end_columns zs)

no_end_answer : (a : Answer) (shown : List ℤ) → has_end (answer_line a shown) ≡ false
unfolding answer_line column
no_end_answer (refused r) shown = no_end_digits false call_width (refusal_number r)
no_end_answer (fine ns) shown = no_end_append (column call_width (pos 0)) (columns (map pos ns ++ shown)) (no_end_digits false call_width 0) (no_end_columns (map pos ns ++ shown))

-- ── a line ──
-- the line printed
abbrev line_for : Call → Plant → Result → List ℕ
line_for c p r = answer_line r.answer (take (words_per_field * places_shown c p.keys) r.words)

abbrev printed_for : Said → Plant → List ℕ
printed_for (says c) p = line_for c p (step c lent_words p)
printed_for (faulty r) p = answer_line (refused r) []

ended_is : (x : Said) (p : Plant) → ((performed x p).bytes ≡ ended (printed_for x p)) × (has_end (printed_for x p) ≡ false)
ended_is (says c) p = (refl, no_end_answer (step c lent_words p).answer (take (words_per_field * places_shown c p.keys) (step c lent_words p).words))
ended_is (faulty r) p = (refl, no_end_answer (refused r) [])

-- the call of a line is that which it says
said_call : {c d : Call} → says c ≡ says d → c ≡ d
said_call e = cc

module _ (ts : List Turn) where
  abbrev w : World
  w = turns ts initial

  abbrev p : Plant
  p = (turns ts initial).plant

  read_line_lem : (s k : ℤ) → IsAccepted (line_for (Read s k) p (step (Read s k) lent_words p)) → line_for (Read s k) p (step (Read s k) lent_words p) ≡ read_line w s k
  unfolding conditions accepted
  read_line_lem s k h =
      let r = step (Read s k) lent_words p in
      let printed = take (words_per_field * places_shown (Read s k) p.keys) r.words in
      let a = answers_differ.accepted r.answer printed h in
      let m = fine-none (Read s k) lent_words p a.0 a.1 in
      let keys = (inv_turns ts initial initial_kept inv_initial).keys in
      let stock = follow (whole_history w.history) (changes_of (w.history.page (nat_of s))) in
      let qs = w.history.keys (nat_of k) in
      let n = words_per_field * length qs in
      let count : words_per_field * places_shown (Read s k) p.keys ≡ n =
      ap (λ b. words_per_field * cond b (length (p.keys (nat_of k))) 0) (not-false (below k key_count) (not_met _ _ m.0)) ∙ ap (λ ks. words_per_field * length (ks (nat_of k))) (sym keys) in
      let words : printed ≡ show_all (map stock qs) =
      ap (λ i. take i r.words) count ∙ ap (take n) (reads_show_lem ts s k lent_words a.0 a.1) ∙ take_at (show_all (map stock qs)) (drop n lent_words) n (length-show_all stock qs) in
      ap (λ z. answer_line z.answer printed) (step-fine (Read s k) lent_words p m)
      ∙ ap (answer_line _) (words ∙ sym (append-nil (show_all (map stock qs))) ∙ ap (λ l. show_all (map stock qs) ++ l) (sym (drop-nil n)))

  line_meets : (x : Said) → LineMeets x w (printed_for x p) (line_leaves x w).plant
  line_meets (says c) =
      let r = step c lent_words p in
      let words = take (words_per_field * places_shown c p.keys) r.words in
      record {
        tells = some_answer r.answer words;
        leaves = λ n e u v. ap (λ z. z.plant) (refusals_leave_lem c lent_words p n (answers_differ.refusal r.answer words n e) u v);
        three = λ e. ap (λ z. z.plant) (refused_is c lent_words p was_doomed (answers_differ.refusal r.answer words was_doomed e));
        four = λ e. ap (λ z. z.plant) (refused_is c lent_words p exclusive_elsewhere (answers_differ.refusal r.answer words exclusive_elsewhere e));
        names = λ d e n.
            let spares = no_session_lem c (ap session_of (said_call e) ∙ n) lent_words p in
            (λ i. (spares was_doomed (answers_differ.refusal r.answer words was_doomed i)).0 refl, λ i. (spares exclusive_elsewhere (answers_differ.refusal r.answer words exclusive_elsewhere i)).1 refl);
        shows = λ s k e. subst (λ d. IsAccepted (line_for d p (step d lent_words p)) → line_for d p (step d lent_words p) ≡ read_line w s k) (sym (said_call e)) (read_line_lem s k);
        commits = λ s e. subst (λ d. LeavesStore p (step d lent_words p).plant) (sym (said_call e)) (commit_leaves_store_lem s lent_words p);
      }
  line_meets (faulty r) =
      record {
        tells = some_answer (refused r) [];
        leaves = λ n e u v. refl;
        three = λ e. refl;
        four = λ e. refl;
        names = λ d e. let z : ◌≡◌ {A = ℕ} 0 1 = cc in absurd (omega (arith, z));
        shows = λ s k e. let z : ◌≡◌ {A = ℕ} 0 1 = cc in absurd (omega (arith, z));
        commits = λ s e. (refl, refl);
      }

-- ── lines ──
-- the turns that lead to the world that a line leaves
record Reached (w : World) : Type 0 where
  ts : List Turn
  is : turns ts initial ≡ w

further : (x : Said) (ts : List Turn) → Reached (line_leaves x (turns ts initial))
further x ts = record { ts = ts ++ turns_of_line x; is = turns_append ts (turns_of_line x) initial }

left_is : (x : Said) (w : World) → (performed x w.plant).plant ≡ (line_leaves x w).plant
left_is (says c) w = refl
left_is (faulty r) w = refl

meets : (ls : List (List ℕ)) (w : World) → Reached w → Meets ls w (lines_of (served ls w.plant).bytes) (served ls w.plant).plant
unfolding serve
meets [] w h = (refl, refl)
meets (l ∷ ls) w h =
    let x = said l in
    let o = printed_for x w.plant in
    let b = ended_is x w.plant in
    let rest = served ls (performed x w.plant).plant in
    let lines : lines_of ((performed x w.plant).bytes ++ rest.bytes) ≡ o ∷ lines_of rest.bytes =
    ap lines_of (ap (λ z. z ++ rest.bytes) b.0 ∙ append_assoc o (newline ∷ []) rest.bytes) ∙ lines_line o rest.bytes b.1 in
    let met : LineMeets x w o (line_leaves x w).plant = subst (λ v. LineMeets x v (printed_for x v.plant) (line_leaves x v).plant) h.is (line_meets h.ts x) in
    let next : Reached (line_leaves x w) = subst (λ v. Reached (line_leaves x v)) h.is (further x h.ts) in
    rw lines (sym b.0, (met, subst (λ z. Meets ls (line_leaves x w) (lines_of (served ls z).bytes) (served ls z).plant) (sym (left_is x w)) (meets ls (line_leaves x w) next)))

pub lines_meet : LinesMeet
unfolding initial
lines_meet ls = meets ls initial (record { ts = []; is = refl })
