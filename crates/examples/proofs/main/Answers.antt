-- `main` gives every example a size of its pieces.
use Rattle.std.proofs.Common.{refl}
use Rattle.examples.proofs.Laws.{all_sized, sized}
use Rattle.examples.proofs.main.Goals as goal

pub loop-lines-init : goal.loop-lines-init
unfolding all_sized
loop-lines-init c = refl

pub example-requires : goal.example-requires
example-requires c = sized _ _ _ c.loop-lines.invariant c.loop-lines-test.true
