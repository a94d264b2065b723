-- The invariant and the measure of the loop of `feed`: the piece is served up to the first line of the list.
use Prim.Native.Nat.{◌-◌, ◌*◌, ◌+◌}
use lib.ListN.{length}
use Rattle.line_server.proofs.Laws.{at}
use Rattle.line_server.proofs.Joined.{Serving}
use Rattle.line_server.proofs.feed.Given as goal

abbrev pub invariant-loop-used : goal.invariant-loop-used
invariant-loop-used l = Serving l.piece l.initial.out (at l.initial.p l.initial.kept 0 0) l.out l.p l.calls l.kept l.used l.wrote l.room l.words

abbrev pub decreases-loop-used : goal.decreases-loop-used
decreases-loop-used l = 2 * (length l.piece - l.used) + l.calls.count
