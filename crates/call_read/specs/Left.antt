-- The plant with the tables that a read writes.
use Rattle.plant.specs.With.{with_cache, with_sessions}
use Rattle.plant.specs.declared.Plant.{Plant}
use Rattle.call_read.specs.declared.Left.{Left}

abbrev pub left : Plant → Left → Plant
left p r = with_sessions (with_cache p r.cache) r.sessions
