-- `run_all` meets its contract. What holds of a call is said once, where it is answered (`Answered`), for each way through the loop's body
-- passes there. Each way back to the loop's head adds what the call leaves.
use Prim.Native.Nat.{ℕ, ◌-◌, ◌<◌, ◌+◌, ◌≤◌}
use native.Mathlib.Omega.{arith}
use mathlib.Core.Path.{◌≡◌, refl, sym, ◌∙◌, ap, subst}
use mathlib.Core.Bool.{Bool, true, false}
use mathlib.Core.List.{List}
use lib.Dec.{eqb}
use lib.IntN.{ℤ, pos}
use lib.ListN.{length, get_or, set, take, drop}
use borrow.Rule.Slice.PartMut.{put_mid, mid_len}
use Rattle.rules.specs.Calls.{call_number}
use Rattle.answers.specs.View.{view_answer, is_refused}
use Rattle.answers.specs.Own.{is_answer_of}
use Rattle.std.specs.Prelude.{Result}
use Rattle.answers.specs.declared.Answer.{Answer}
use Rattle.answers.specs.declared.Refusal.{Refusal}
use Rattle.lists.proofs.Loops.{length_mapped}
use Rattle.plant.specs.View.{plant_form}
use Rattle.plant.specs.declared.Plant.{Plant}
use Rattle.promises.specs.Promise.{Answers, Performs}
use Rattle.call_read.specs.Shows.{Found}
use Rattle.call_report.proofs.Laws.{performs}
use Rattle.calls.specs.View.{view_call, view_calls, list_limit}
use Rattle.calls.specs.declared.Call.{Call}
use Rattle.calls.specs.declared.Call.TheVariants.{Load, Map, Read, Change, Commit, Abandon, Advance, Take, Apply, Delete, Cut, Store, Report}
use Rattle.calls.proofs.Back.{back1, back2, back4, back5, back10}
use Rattle.entry_parts.specs.Session.{has_session}
use Rattle.entry_parts.proofs.Laws.{has_none}
use Rattle.call_read_shown.specs.declared.Marked.{Marked}
use Rattle.call_read.specs.Shows as R
use Rattle.entry.proofs.Filled.{refused_by, Seen, filled, shown_by, own_unread, Carries, carries_ok, carries_err, carries_filled, carries_shown}
use Rattle.entry.specs.RanAll.{is_read}
use Rattle.entry.specs.declared.Told.{Told}
use Rattle.entry.proofs.RunAll.{Lent, lent_same, lent_filled, Running, running_start, running_next, running_end, inside, few_calls, call_at}
use Rattle.entry.proofs.Asked.{Asked, asked_read, asked_other, plain_other, Done, entered}
use Rattle.entry.proofs.Done.{done_ended, done_nothing, done_by}
use borrow.Author.Rules.{rules}
use Rattle.entry.proofs.run_all.Goals.{After-ends, in-Read+in-Ok, in-Read+in-Err, in-Change, in-Commit, in-Abandon, in-Report, in_default}
use Rattle.entry.proofs.run_all.Goals as goal

pub loop-i-init : goal.loop-i-init
loop-i-init c =
    let many : length c.args.calls.items ≡ list_limit = search (length_mapped, rules) in
    running_start _ _ _ _ (few_calls c.args.calls many) _ refl

-- ── where a call is answered ──
abbrev any : Call
any = Load (pos 0) (pos 0) (pos 0) (pos 0)

abbrev Answered : Type 0
Answered = After-ends

-- there are as many items as there is room for
all-items : (c : Answered) → length c.args.calls.items ≡ list_limit
all-items c = search (length_mapped, rules)

-- the call is one of the list
listed : (c : Answered) → c.loop-i.i < length (view_calls c.args.calls)
listed c = omega (arith, c.loop-i-test.true, c.len-end.ensures)

-- its words are among those lent
reach : (c : Answered) → c.loop-i.at + c.min.result ≤ length c.loop-i.words
reach c = omega (arith, c.min.ensures, inside _ _ _ _ _ _ _ _ _ c.loop-i.invariant)

abbrev call : Answered → Call
call c = get_or c.args.calls.items c.loop-i.i any

-- its words begin here, and end there
abbrev here : Answered → ℕ
here c = c.loop-i.at

abbrev there : Answered → ℕ
there c = here c + c.min.result

-- its answer, with what the last read has shown
abbrev seen : Answered → Seen
seen c = record { answer = c.match-c.a; shown = c.match-c.read }

-- what each arm has found: only a read writes words
abbrev Met : Answered → Type 0
Met c = Asked (there c - here c) c.loop-i.p c.match-c.c (seen c) × ((c.match-c.c ≡ call c) × (Lent (here c) (there c) (seen c) c.loop-i.words c.match-c.words × (c.match-c.shown ≡ shown_by (seen c))))

met-read : (c : Answered) (r : Result Marked Refusal) → Carries r (seen c) → (s k : ℤ) → c.match-c.c ≡ Read s k → Found s k c.loop-i.p (there c - here c) r → c.match-c.c ≡ call c
    → (part : List ℤ) → c.match-c.words ≡ put_mid (here c) (there c - here c) c.loop-i.words part → length part ≡ length (take (there c - here c) (drop (here c) c.loop-i.words)) → part ≡ R.filled r (take (there c - here c) (drop (here c) c.loop-i.words)) → c.match-c.shown ≡ R.shown_by r → Met c
met-read c r h s k ec f el part ew l ep ef =
    (asked_read _ _ _ (seen c) r s k ec h f, (el, (lent_filled (here c) (there c) (seen c) _ _ part (omega arith) (reach c) ew (l ∙ mid_len (here c) (there c) c.loop-i.words (reach c)) (ep ∙ sym (carries_filled r (seen c) h _)), ef ∙ sym (carries_shown r (seen c) h))))

met-other : (c : Answered) (y : Call) → c.match-c.c ≡ y → eqb (call_number (view_call y)) 4 ≡ false → (r : Result Answer Refusal) → c.match-c.a ≡ r → ((lent : List ℤ) → Answers (view_call y) lent c.loop-i.p r) → is_answer_of (view_call y) r ≡ true → c.match-c.c ≡ call c
    → c.match-c.words ≡ c.loop-i.words → c.match-c.shown ≡ 0 → Met c
met-other c y ec other r ea h own el ew ef =
    let none : is_read c.match-c.a ≡ false = rw ea (own_unread (view_call y) other r own) in
    (asked_other _ _ _ (seen c) r ea y ec other h own, (el, (lent_same _ _ (seen c) _ _ ew none, ef ∙ rw none refl)))

met : (c : Answered) → Met c
met c =
    elim c.match-c.branch [
      | in-Read+in-Ok w ↦ met-read c w.found-found.result (carries_ok _ _ _ w.in-Ok.is w.a-is w.read-is) _ _ (back2 Read _ _ w.c-is (search rules) (search rules)) w.found-found.ensures (w.c-is ∙ sym w.in-Read.is) _ w.words-is (search (w.fill-shown, rules)) w.fill-shown.ensures.fills (w.shown-is ∙ w.fill-shown.ensures.counts)
      | in-Read+in-Err w ↦ met-read c w.found-found.result (carries_err _ _ _ w.in-Err.is w.a-is) _ _ (back2 Read _ _ w.c-is (search rules) (search rules)) w.found-found.ensures (w.c-is ∙ sym w.in-Read.is) _ w.words-is (search (w.fill-shown, rules)) w.fill-shown.ensures.fills (w.shown-is ∙ w.fill-shown.ensures.counts)
      | in-Change w ↦ met-other c _ (back5 Change _ _ _ _ _ w.c-is (search rules) (search rules) (search rules) (search rules) (search rules)) refl w.answer-a.result w.a-is w.answer-a.ensures.answers w.answer-a.ensures.own (w.c-is ∙ sym w.in-Change.is) w.words-is w.shown-is
      | in-Commit w ↦ met-other c _ (back1 Commit _ w.c-is (search rules)) refl w.answer-a-in-Commit.result w.a-is w.answer-a-in-Commit.ensures.answers w.answer-a-in-Commit.ensures.own (w.c-is ∙ sym w.in-Commit.is) w.words-is w.shown-is
      | in-Abandon w ↦ met-other c _ (back1 Abandon _ w.c-is (search rules)) refl w.answer-a-in-Abandon.result w.a-is w.answer-a-in-Abandon.ensures.answers w.answer-a-in-Abandon.ensures.own (w.c-is ∙ sym w.in-Abandon.is) w.words-is w.shown-is
      | in-Report w ↦ met-other c _ (back1 Report _ w.c-is (search rules)) refl w.answer-a-in-Report.result w.a-is w.answer-a-in-Report.ensures.answers w.answer-a-in-Report.ensures.own (w.c-is ∙ sym w.in-Report.is) w.words-is w.shown-is
      | in_default w ↦
          let n : has_session (call c) ≡ false = has_none (call c) (search rules) in
          met-other c (call c) w.c-is (plain_other (call c) n) w.plain-a.result w.a-is (w.plain-a.ensures.answers n) (w.plain-a.ensures.own n) w.c-is w.words-is w.shown-is
    ]

-- one call more is run, with the plant that it leaves
abbrev told : Answered → Told
told c = record { answer = c.match-c.a; shown = c.match-c.shown }

abbrev Run : Answered → Plant → Type 0
Run c q = Running c.args.share c.args.p (view_calls c.args.calls) c.args.words.now (set c.loop-i.told c.loop-i.i (told c)) c.match-c.words (c.loop-i.i + 1) (there c) q

again : (c : Answered) (q : Plant) → Done c.match-c.c c.loop-i.p c.match-c.a q → Run c q
again c q d =
    let h = listed c in
    let m = met c in
    running_next _ _ _ _ _ _ _ _ _ c.loop-i.invariant h c.match-c.c any (m.1.0 ∙ call_at c.args.calls (all-items c) any _ h) (told c) (there c) (ap (λ n. here c + n) c.min.ensures) (seen c) _ m.1.1.0 q (entered _ _ _ (seen c) m.0 (told c) refl m.1.1.1 q d)

pub loop-i-preserved-then-ends : goal.loop-i-preserved-then-ends
loop-i-preserved-then-ends c =
    again (goal.at.loop-i-preserved-then-ends c).After-ends _
    (done_ended c.match-c.c c.loop-i.p c.match-c.a _ c.ends.ensures c.if-ends.true _ (c.ended-sessions.ensures.shows, c.ended-sessions.ensures.form))

pub loop-i-preserved-then-is_err : goal.loop-i-preserved-then-is_err
loop-i-preserved-then-is_err c =
    again (goal.at.loop-i-preserved-then-is_err c).After-ends _
    (done_nothing c.match-c.c c.loop-i.p c.match-c.a _ c.ends.ensures c.if-ends.false _ (refused_by c.match-c.a _ c.is_err.ensures.value) c.if-is_err.true)

-- ── where it is no refusal: by the tables that the call writes ──
done : (c : Answered) → c.ends.result ≡ false → (r : Bool) → r ≡ is_refused (view_answer c.match-c.a) → r ≡ false → (y : Call) → c.match-c.c ≡ y
    → (q : Plant) → Performs (view_call y) c.loop-i.p q → (plant_form c.loop-i.p ≡ true → plant_form q ≡ true) → Run c q
done c h r er g y e q f k = again c q (done_by c.match-c.c c.loop-i.p c.match-c.a _ c.ends.ensures h r er g y e q (f, k))

pub loop-i-preserved-in-Load : goal.loop-i-preserved-in-Load
loop-i-preserved-in-Load c =
    done (goal.at.loop-i-preserved-in-Load c).After-ends c.if-ends.false _ (refused_by c.match-c.a _ c.is_err.ensures.value) c.if-is_err.false _
    (back4 Load _ _ _ _ c.in-Load.is (search rules) (search rules) (search rules) (search rules)) _ c.after-store.ensures.shows c.after-store.ensures.form

pub loop-i-preserved-in-Map : goal.loop-i-preserved-in-Map
loop-i-preserved-in-Map c =
    done (goal.at.loop-i-preserved-in-Map c).After-ends c.if-ends.false _ (refused_by c.match-c.a _ c.is_err.ensures.value) c.if-is_err.false _
    (back10 Map _ _ _ _ _ _ _ _ _ _ c.in-Map.is (search rules) (search rules) (search rules) (search rules) (search rules) (search rules) (search rules) (search rules) (search rules) (search rules)) _ c.after-keys.ensures.shows c.after-keys.ensures.form

pub loop-i-preserved-in-Begin : goal.loop-i-preserved-in-Begin
loop-i-preserved-in-Begin c =
    done (goal.at.loop-i-preserved-in-Begin c).After-ends c.if-ends.false _ (refused_by c.match-c.a _ c.is_err.ensures.value) c.if-is_err.false _
    c.in-Begin.is _ c.after-t.ensures.shows c.after-t.ensures.form

pub loop-i-preserved-in-Read-c : goal.loop-i-preserved-in-Read-c
loop-i-preserved-in-Read-c c =
    let x = (goal.at.loop-i-preserved-in-Read-c c).After-ends in
    let e = back2 Read _ _ c.in-Read-c.is (search rules) (search rules) in
    let f = (met x).0 in
    done x c.if-ends.false _ (refused_by c.match-c.a _ c.is_err.ensures.value) c.if-is_err.false _ e _
    (c.after-t-in-Read-c.ensures.shows (f.shows _ _ e (sym (refused_by c.match-c.a _ c.is_err.ensures.value) ∙ c.if-is_err.false)))
    (λ k. c.after-t-in-Read-c.ensures.form (f.form _ _ e (sym (refused_by c.match-c.a _ c.is_err.ensures.value) ∙ c.if-is_err.false) k) k)

pub loop-i-preserved-in-Change-c : goal.loop-i-preserved-in-Change-c
loop-i-preserved-in-Change-c c =
    done (goal.at.loop-i-preserved-in-Change-c c).After-ends c.if-ends.false _ (refused_by c.match-c.a _ c.is_err.ensures.value) c.if-is_err.false _
    (back5 Change _ _ _ _ _ c.in-Change-c.is (search rules) (search rules) (search rules) (search rules) (search rules)) _ c.after-sessions.ensures.shows c.after-sessions.ensures.form

pub loop-i-preserved-in-Commit-c : goal.loop-i-preserved-in-Commit-c
loop-i-preserved-in-Commit-c c =
    done (goal.at.loop-i-preserved-in-Commit-c c).After-ends c.if-ends.false _ (refused_by c.match-c.a _ c.is_err.ensures.value) c.if-is_err.false _
    (back1 Commit _ c.in-Commit-c.is (search rules)) _ c.after-t-in-Commit-c.ensures.shows c.after-t-in-Commit-c.ensures.form

pub loop-i-preserved-in-Abandon-c : goal.loop-i-preserved-in-Abandon-c
loop-i-preserved-in-Abandon-c c =
    done (goal.at.loop-i-preserved-in-Abandon-c c).After-ends c.if-ends.false _ (refused_by c.match-c.a _ c.is_err.ensures.value) c.if-is_err.false _
    (back1 Abandon _ c.in-Abandon-c.is (search rules)) _ c.after-sessions-in-Abandon-c.ensures.shows c.after-sessions-in-Abandon-c.ensures.form

pub loop-i-preserved-in-Advance : goal.loop-i-preserved-in-Advance
loop-i-preserved-in-Advance c =
    done (goal.at.loop-i-preserved-in-Advance c).After-ends c.if-ends.false _ (refused_by c.match-c.a _ c.is_err.ensures.value) c.if-is_err.false _
    (back1 Advance _ c.in-Advance.is (search rules)) _ c.after-t-in-Advance.ensures.shows c.after-t-in-Advance.ensures.form

pub loop-i-preserved-in-Take : goal.loop-i-preserved-in-Take
loop-i-preserved-in-Take c =
    done (goal.at.loop-i-preserved-in-Take c).After-ends c.if-ends.false _ (refused_by c.match-c.a _ c.is_err.ensures.value) c.if-is_err.false _
    (back1 Take _ c.in-Take.is (search rules)) _ c.after-t-in-Take.ensures.shows c.after-t-in-Take.ensures.form

pub loop-i-preserved-in-Apply : goal.loop-i-preserved-in-Apply
loop-i-preserved-in-Apply c =
    done (goal.at.loop-i-preserved-in-Apply c).After-ends c.if-ends.false _ (refused_by c.match-c.a _ c.is_err.ensures.value) c.if-is_err.false _
    (back2 Apply _ _ c.in-Apply.is (search rules) (search rules)) _ c.after-t-in-Apply.ensures.shows c.after-t-in-Apply.ensures.form

pub loop-i-preserved-in-Delete : goal.loop-i-preserved-in-Delete
loop-i-preserved-in-Delete c =
    done (goal.at.loop-i-preserved-in-Delete c).After-ends c.if-ends.false _ (refused_by c.match-c.a _ c.is_err.ensures.value) c.if-is_err.false _
    (back1 Delete _ c.in-Delete.is (search rules)) _ c.after-t-in-Delete.ensures.shows c.after-t-in-Delete.ensures.form

pub loop-i-preserved-in-Cut : goal.loop-i-preserved-in-Cut
loop-i-preserved-in-Cut c =
    done (goal.at.loop-i-preserved-in-Cut c).After-ends c.if-ends.false _ (refused_by c.match-c.a _ c.is_err.ensures.value) c.if-is_err.false _
    (back1 Cut _ c.in-Cut.is (search rules)) _ c.after-t-in-Cut.ensures.shows c.after-t-in-Cut.ensures.form

pub loop-i-preserved-in-Sweep : goal.loop-i-preserved-in-Sweep
loop-i-preserved-in-Sweep c =
    done (goal.at.loop-i-preserved-in-Sweep c).After-ends c.if-ends.false _ (refused_by c.match-c.a _ c.is_err.ensures.value) c.if-is_err.false _
    c.in-Sweep.is _ c.after-rows.ensures.shows c.after-rows.ensures.form

pub loop-i-preserved-in-Store : goal.loop-i-preserved-in-Store
loop-i-preserved-in-Store c =
    done (goal.at.loop-i-preserved-in-Store c).After-ends c.if-ends.false _ (refused_by c.match-c.a _ c.is_err.ensures.value) c.if-is_err.false _
    (back1 Store _ c.in-Store.is (search rules)) _ c.after-near.ensures.shows c.after-near.ensures.form

pub loop-i-preserved : goal.loop-i-preserved
loop-i-preserved c =
    done (goal.at.loop-i-preserved c).After-ends c.if-ends.false _ (refused_by c.match-c.a _ c.is_err.ensures.value) c.if-is_err.false _
    c.in-Report-c.is _ (performs _ _) (λ f. f)

pub returns : goal.returns
returns c =
    let r = c.loop-i.invariant in
    let l = c.len-end.ensures in
    record { runs = running_end _ _ _ _ _ _ _ _ _ r (omega (arith, c.loop-i-test.false, l)); counts = omega (arith, c.loop-i-test.false, l, r.upto) }
