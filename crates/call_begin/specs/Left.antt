-- The plant with the tables that a begin writes.
use Rattle.plant.specs.With.{with_sessions, with_next}
use Rattle.plant.specs.declared.Plant.{Plant}
use Rattle.call_begin.specs.declared.Left.{Left}

abbrev pub left : Plant → Left → Plant
left p r = with_next (with_sessions p r.sessions) r.next
