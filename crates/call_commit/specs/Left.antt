-- The plant with the tables that a commit writes.
use Rattle.plant.specs.With.{with_cache, with_sessions, with_buffer}
use Rattle.plant.specs.declared.Plant.{Plant}
use Rattle.call_commit.specs.declared.Left.{Left}

abbrev pub left : Plant → Left → Plant
left p r = with_buffer (with_sessions (with_cache p r.cache) r.sessions) r.buffer
