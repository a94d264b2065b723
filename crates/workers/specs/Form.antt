-- The one form of each value: what a view does not show is 0.
use Rattle.std.specs.Prelude.{Bool, cond, not, ◌&&◌, ◌||◌, eqb}
use Rattle.rules.specs.Limits.{worker_count}
use Rattle.lists.specs.Table.{array_form}
use Rattle.workers.specs.declared.Hand.{Hand}
use Rattle.workers.specs.declared.Hands.{Hands}
use Rattle.workers.specs.declared.Queue.{Queue}

unfoldable pub hand_form : Hand → Bool
hand_form h = h.full || (not h.replied && eqb h.number 0)

unfoldable pub hands_form : Hands → Bool
hands_form t = array_form worker_count hand_form t.all

unfoldable pub queue_form : Queue → Bool
queue_form q = cond q.live (q.owned || eqb q.owner 0) (not q.owned && eqb q.owner 0 && eqb q.since 0)
