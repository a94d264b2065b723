-- `add` meets its contract: the bytes of out looked at so far are the next ones of the answers.
use Rattle.std.proofs.Common.{ℕ, List, ◌++◌, take, Ok}
use Rattle.examples.specs.Comparison.{Matches}
use Rattle.examples.proofs.add.Given as goal

abbrev pub invariant-loop-b : goal.invariant-loop-b
invariant-loop-b l = (came : List ℕ) → Matches l.answers came (Ok l.initial.at) → Matches l.answers (came ++ take l.b-index l.out) (Ok l.at)
