-- `tell_all` meets its contract.
use Prim.Native.Nat.{◌+◌, ◌-◌, ◌≤◌}
use native.Mathlib.Omega.{arith}
use mathlib.Core.Path.{◌≡◌, ap}
use lib.ListN.{length, get_or, take, drop}
use borrow.Author.Rules.{rules}
use borrow.Rule.Slice.PartMut.{same_len_mid}
use Rattle.lists.proofs.Loops.{length_mapped}
use Rattle.std.specs.Prelude.{Ok}
use Rattle.answers.specs.declared.Answer.TheVariants.{Done}
use Rattle.calls.specs.View.{list_limit}
use Rattle.entry.specs.declared.Told.{Told}
use Rattle.line_answer.proofs.Laws.{tell_start, tell_next, tell_end, tell_past, more_within, reach, within, lined, few_words_lem, few_own}
use Rattle.line_answer.proofs.tell_all.Goals.{After-min}
use Rattle.line_answer.proofs.tell_all.Goals as goal

abbrev any : Told
any = record { answer = Ok Done; shown = 0 }

-- the words of the next one are among those lent
inside : (c : After-min) → c.loop-i.at + c.min.result ≤ length c.args.words.now
inside c = reach _ _ _ _ _ _ _ _ c.loop-i.invariant _ (ap (λ n. c.loop-i.at + n) c.min.ensures)

pub loop-i-init : goal.loop-i-init
loop-i-init c = tell_start _ _ _ _

pub returns-then-n-i : goal.returns-then-n-i
returns-then-n-i c =
    let r = tell_end _ _ _ _ _ _ _ _ c.loop-i.invariant c.if-n-i.true in
    record { within = r.0; lines = r.1 }

pub overflow_add-next : goal.overflow_add-next
overflow_add-next c = let h = inside c in search (h, rules)

pub slice_bounds-answer-start : goal.slice_bounds-answer-start
slice_bounds-answer-start c = let h = inside c in search (h, rules)

pub slice_bounds-answer-end : goal.slice_bounds-answer-end
slice_bounds-answer-end c = let h = inside c in search (h, rules)

pub overflow_add-wrote : goal.overflow_add-wrote
overflow_add-wrote c =
    let h = more_within _ _ _ _ _ _ _ _ c.loop-i.invariant _ (within _ _ _ c.answer-wrote.ensures.takes) in
    search (h, rules)

pub loop-i-preserved : goal.loop-i-preserved
loop-i-preserved c =
    let t = c.loop-i.invariant in
    let told = c.args.told in
    let l : length told ≡ list_limit = search (length_mapped, rules) in
    let e = ap (λ n. c.loop-i.at + n) c.min.ensures in
    let a = c.answer-wrote.ensures in
    let at = c.loop-i.at in
    let o = get_or told c.loop-i.i any in
    tell_next _ told _ _ _ _ _ _ t _ e any c.if-n-i.false (omega (arith, l, c.loop-i-test.true)) _ _ (same_len_mid c.loop-i.wrote (length c.loop-i.out - c.loop-i.wrote) c.loop-i.out c.answer-wrote.new.out (search (c.answer-wrote, rules))) (within _ _ _ a.takes)
    (lined o.answer (take o.shown (take (at + c.min.result - at) (drop at c.args.words.now))) _ _ _ (few_words_lem o.shown _ (few_own _ _ _ _ _ _ _ _ t _ e)) a.prints a.takes)

pub returns : goal.returns
returns c =
    let l : length c.args.told ≡ list_limit = search (length_mapped, rules) in
    let r = tell_past _ _ _ _ _ _ _ _ c.loop-i.invariant (omega (arith, l, c.loop-i-test.false)) in
    record { within = r.0; lines = r.1 }
