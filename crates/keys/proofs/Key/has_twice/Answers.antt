-- `Key::has_twice` meets its contract.
use Rattle.std.proofs.Common.{◌∙◌, sym}
use Rattle.keys.proofs.KeyLaws.{twice_hit, twice_next}
use Rattle.keys.proofs.Key.has_twice.Goals as goal

pub returns-then-contains : goal.returns-then-contains
returns-then-contains c = twice_hit _ _ _ c.loop-i-test.true c.contains.ensures.value c.if-contains.true ∙ sym c.loop-i.invariant

pub loop-i-preserved : goal.loop-i-preserved
loop-i-preserved c = c.loop-i.invariant ∙ twice_next _ _ _ c.loop-i-test.true c.contains.ensures.value c.if-contains.false
