-- The plant with the tables that a cut writes.
use Rattle.plant.specs.With.{with_hands, with_queue}
use Rattle.plant.specs.declared.Plant.{Plant}
use Rattle.call_cut.specs.declared.Left.{Left}

abbrev pub left : Plant → Left → Plant
left p r = with_queue (with_hands p r.hands) r.queue
