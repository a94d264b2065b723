-- The plant with the tables that an apply writes.
use Rattle.plant.specs.With.{with_store, with_rows, with_hands}
use Rattle.plant.specs.declared.Plant.{Plant}
use Rattle.call_apply.specs.declared.Left.{Left}

abbrev pub left : Plant → Left → Plant
left p r = with_hands (with_rows (with_store p r.store) r.rows) r.hands
