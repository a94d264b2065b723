-- `plain` meets its contract.
use borrow.Author.Rules.{rules}
use Rattle.calls.proofs.Back.{back1, back2, back4, back10}
use Rattle.calls.specs.declared.Call.TheVariants.{Load, Map, Advance, Take, Apply, Delete, Cut, Store}
use Rattle.std.specs.Prelude.{Ok}
use Rattle.answers.specs.declared.Answer.TheVariants.{Done}
use Rattle.entry_parts.proofs.Laws.{plainly, not_plain}
use Rattle.entry_parts.proofs.plain.Goals as goal

pub returns-in-Load : goal.returns-in-Load
returns-in-Load c =
    let r = plainly c.args.p _ _ (back4 Load _ _ _ _ c.in-Load.is (search rules) (search rules) (search rules) (search rules)) c.answer.result (c.answer.ensures.answers, c.answer.ensures.own) in
    record { answers = r.0; own = r.1 }

pub returns-in-Map : goal.returns-in-Map
returns-in-Map c =
    let r = plainly c.args.p _ _ (back10 Map _ _ _ _ _ _ _ _ _ _ c.in-Map.is (search rules) (search rules) (search rules) (search rules) (search rules) (search rules) (search rules) (search rules) (search rules) (search rules)) c.answer-in-Map.result (c.answer-in-Map.ensures.answers, c.answer-in-Map.ensures.own) in
    record { answers = r.0; own = r.1 }

pub returns-in-Begin : goal.returns-in-Begin
returns-in-Begin c =
    let r = plainly c.args.p _ _ c.in-Begin.is c.answer-in-Begin.result (c.answer-in-Begin.ensures.answers, c.answer-in-Begin.ensures.own) in
    record { answers = r.0; own = r.1 }

pub returns-in-Advance : goal.returns-in-Advance
returns-in-Advance c =
    let r = plainly c.args.p _ _ (back1 Advance _ c.in-Advance.is (search rules)) c.answer-in-Advance.result (c.answer-in-Advance.ensures.answers, c.answer-in-Advance.ensures.own) in
    record { answers = r.0; own = r.1 }

pub returns-in-Take : goal.returns-in-Take
returns-in-Take c =
    let r = plainly c.args.p _ _ (back1 Take _ c.in-Take.is (search rules)) c.answer-in-Take.result (c.answer-in-Take.ensures.answers, c.answer-in-Take.ensures.own) in
    record { answers = r.0; own = r.1 }

pub returns-in-Apply : goal.returns-in-Apply
returns-in-Apply c =
    let r = plainly c.args.p _ _ (back2 Apply _ _ c.in-Apply.is (search rules) (search rules)) c.answer-in-Apply.result (c.answer-in-Apply.ensures.answers, c.answer-in-Apply.ensures.own) in
    record { answers = r.0; own = r.1 }

pub returns-in-Delete : goal.returns-in-Delete
returns-in-Delete c =
    let r = plainly c.args.p _ _ (back1 Delete _ c.in-Delete.is (search rules)) c.answer-in-Delete.result (c.answer-in-Delete.ensures.answers, c.answer-in-Delete.ensures.own) in
    record { answers = r.0; own = r.1 }

pub returns-in-Cut : goal.returns-in-Cut
returns-in-Cut c =
    let r = plainly c.args.p _ _ (back1 Cut _ c.in-Cut.is (search rules)) c.answer-in-Cut.result (c.answer-in-Cut.ensures.answers, c.answer-in-Cut.ensures.own) in
    record { answers = r.0; own = r.1 }

pub returns-in-Sweep : goal.returns-in-Sweep
returns-in-Sweep c =
    let r = plainly c.args.p _ _ c.in-Sweep.is c.answer-in-Sweep.result (c.answer-in-Sweep.ensures.answers, c.answer-in-Sweep.ensures.own) in
    record { answers = r.0; own = r.1 }

pub returns-in-Store : goal.returns-in-Store
returns-in-Store c =
    let r = plainly c.args.p _ _ (back1 Store _ c.in-Store.is (search rules)) c.answer-in-Store.result (c.answer-in-Store.ensures.answers, c.answer-in-Store.ensures.own) in
    record { answers = r.0; own = r.1 }

pub returns-in_default : goal.returns-in_default
returns-in_default c =
    let r = not_plain c.args.p c.args.c (Ok Done) (search rules) in
    record { answers = r.0; own = r.1 }
