-- `main` gives every example a size of its pieces.
use Rattle.std.proofs.Common.{◌≡◌, true}
use Rattle.examples.proofs.Laws.{all_sized}
use Rattle.examples.proofs.main.Given as goal

abbrev pub invariant-loop-lines : goal.invariant-loop-lines
invariant-loop-lines l = all_sized l.lines-items ≡ true
