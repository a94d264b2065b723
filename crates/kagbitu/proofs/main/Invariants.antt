-- `main` is safe and ends, and keeps that its server is the one that all turns so far lead to from the one that started: the bytes read, used and
-- unused, in order.
use Rattle.std.proofs.Common.{◌≤◌, ◌≡◌, ◌+◌, ◌-◌, length}
use Rattle.kagbitu.specs.Part.{unused, Inside}
use Rattle.kagbitu.specs.Run.{SomeRun, Started}
use Rattle.kagbitu.proofs.main.Given as goal

abbrev pub invariant-loop-turns : goal.invariant-loop-turns
invariant-loop-turns l =
    record {
      ran : SomeRun l.initial.server (l.initial.turns - l.turns) l.server (unused l.part l.piece);
      started : Started l.initial.server;
      inside : Inside l.part l.piece;
      piece : 16384 ≡ length l.piece;
      room : 65536 ≡ length l.out;
      turns : l.turns ≤ l.initial.turns;
    }

abbrev pub decreases-loop-turns : goal.decreases-loop-turns
decreases-loop-turns l = l.turns + l.tries
