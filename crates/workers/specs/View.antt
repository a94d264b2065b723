-- Hands and queue lease as the rules see them, for every value of the structs.
use Rattle.std.specs.Prelude.{ℕ, cond, map, get_or}
use Rattle.std.proofs.Math.Option.{Option, none, some}
use Rattle.rules.specs.Tables as M
use Rattle.workers.specs.declared.Hand.{Hand}
use Rattle.workers.specs.declared.Hands.{Hands}
use Rattle.workers.specs.declared.Queue.{Queue}

unfoldable pub view_hand : Hand → M.Hand
view_hand h = cond h.full (M.holds h.number h.replied) M.empty

-- a worker past the table has an empty hand
unfoldable pub view_hands : Hands → ℕ → M.Hand
view_hands t w = get_or (map view_hand t.all) w M.empty

-- whose name a lease is in
unfoldable pub owner_of : Queue → Option ℕ
owner_of q = cond q.owned (some q.owner) none

unfoldable pub view_queue : Queue → M.Queue
unfolding owner_of
view_queue q = cond q.live (M.leased (owner_of q) q.since) M.idle
