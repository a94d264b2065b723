-- `serve` meets its contract: the bytes of the lines before the rest are served, and what was answered to them are the first bytes of the answers.
-- Each turn uses a byte at least.
use Rattle.std.proofs.Common.{length}
use Rattle.examples.proofs.Laws.{Going}
use Rattle.examples.proofs.serve.Given as goal

abbrev pub invariant-loop-rest : goal.invariant-loop-rest
invariant-loop-rest l = Going l.lines l.answers l.rest l.server l.at

abbrev pub decreases-loop-rest : goal.decreases-loop-rest
decreases-loop-rest l = length l.rest
