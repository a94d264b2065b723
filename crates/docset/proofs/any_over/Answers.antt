-- A search of the documents of a set, from the lowest: is a tick at most the limit.
use borrow.Author.Rules.{rules}
use borrow.Author.Tests.{le-leb, lt-leb}
use Rattle.docset.proofs.Walk.{look_start, look_hit, look_next, look_end, next_below, rest_fewer}
use Rattle.docset.proofs.any_over.Goals as goal

pub loop-rest-init : goal.loop-rest-init
loop-rest-init c = search (look_start, rules)

pub bounds-ticks-d : goal.bounds-ticks-d
bounds-ticks-d c = search next_below

pub returns-then-ticks-d : goal.returns-then-ticks-d
returns-then-ticks-d c = look_hit c.loop-rest.invariant c.loop-rest-test.true c.lowest-d.ensures (le-leb _ _ c.if-ticks-d.true)

pub loop-rest-smaller : goal.loop-rest-smaller
loop-rest-smaller c = search rest_fewer

pub loop-rest-preserved : goal.loop-rest-preserved
loop-rest-preserved c = look_next c.loop-rest.invariant c.loop-rest-test.true c.lowest-d.ensures _ (lt-leb _ _ c.if-ticks-d.false) (search rules) c.without-rest.ensures

pub returns : goal.returns
returns c = search look_end
