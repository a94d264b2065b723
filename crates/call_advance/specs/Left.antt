-- The plant with the tables that an advance writes.
use Rattle.plant.specs.With.{with_cache, with_sessions, with_queue, with_clock}
use Rattle.plant.specs.declared.Plant.{Plant}
use Rattle.call_advance.specs.declared.Left.{Left}

abbrev pub left : Plant → Left → Plant
left p r = with_clock (with_queue (with_sessions (with_cache p r.cache) r.sessions) r.queue) r.clock
