-- `serve` meets its contract: the lines are served piece by piece, and at their end the line that has begun.
use Rattle.std.proofs.Common.{arith}
use Rattle.std.proofs.lemmas.Result.{err_from_is_err_and}
use Rattle.examples.proofs.Laws.{going-none, going, early, late, all_same, too_few}
use Rattle.examples.proofs.serve.Goals as goal

pub loop-rest-init : goal.loop-rest-init
loop-rest-init c = let s = c.start-server.ensures in going-none _ _ _ s.shows s.empty s.kept

pub loop-rest-preserved : goal.loop-rest-preserved
loop-rest-preserved c =
    let l = c.loop-rest in
    let f = c.feed-server.ensures in
    going _ _ _ _ _ l.invariant _ _ _ f.feeds f.within.0 _ c.in_ok-at.ensures _ (omega arith)

pub returns-in_err-at : goal.returns-in_err-at
returns-in_err-at c =
    let f = c.feed-server.ensures in
    let p = err_from_is_err_and c.from_residual.result c.from_residual.ensures.1 in
    rw (p.1, p.2) (early _ _ _ _ _ c.loop-rest.invariant _ _ _ f.feeds f.within.0 _ c.in_err-at.ensures)

pub returns-in_err-at-2 : goal.returns-in_err-at-2
returns-in_err-at-2 c =
    let p = err_from_is_err_and c.from_residual-in_err-at-2.result c.from_residual-in_err-at-2.ensures.1 in
    rw (p.1, p.2) (late _ _ _ _ _ c.loop-rest.invariant _ _ c.loop-rest-test.ensures (c.finish-server.ensures.serves (omega arith)) _ c.in_err-at-2.ensures)

pub returns-then-at-answers : goal.returns-then-at-answers
returns-then-at-answers c =
    all_same _ _ _ _ _ c.loop-rest.invariant _ _ c.loop-rest-test.ensures (c.finish-server.ensures.serves (omega arith)) _ c.in_ok-at-2.ensures c.if-at-answers.true

pub returns-else-at-answers : goal.returns-else-at-answers
returns-else-at-answers c =
    too_few _ _ _ _ _ c.loop-rest.invariant _ _ c.loop-rest-test.ensures (c.finish-server.ensures.serves (omega arith)) _ c.in_ok-at-2.ensures c.if-at-answers.false
