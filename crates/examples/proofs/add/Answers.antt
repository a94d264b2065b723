-- `add` meets its contract: a byte that is not the next one of the answers, or one that is.
use Rattle.std.proofs.Common.{refl}
use Rattle.examples.proofs.Laws.{as_next, as_other}
use Rattle.examples.proofs.add.Goals as goal

pub returns-then-ne : goal.returns-then-ne
returns-then-ne c came t = as_other _ _ _ _ _ c.loop-b-test.true (c.loop-b.invariant came t) _ refl c.get.result c.get.ensures.lookup.0 c.get.ensures.lookup.1 _ c.ne.ensures c.if-ne.true

pub loop-b-preserved : goal.loop-b-preserved
loop-b-preserved c came t = as_next _ _ _ _ _ c.loop-b-test.true (c.loop-b.invariant came t) _ refl c.get.result c.get.ensures.lookup.0 c.get.ensures.lookup.1 _ c.ne.ensures c.if-ne.false
