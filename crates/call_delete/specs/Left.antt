-- The plant with the tables that a delete writes.
use Rattle.plant.specs.With.{with_buffer, with_hands, with_queue}
use Rattle.plant.specs.declared.Plant.{Plant}
use Rattle.call_delete.specs.declared.Left.{Left}

abbrev pub left : Plant → Left → Plant
left p r = with_queue (with_hands (with_buffer p r.buffer) r.hands) r.queue
