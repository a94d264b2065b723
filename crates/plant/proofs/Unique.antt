-- Two plants in form that show the same are equal.
use mathlib.Core.Path.{◌≡◌}
use mathlib.Core.Bool.{true}
use Rattle.store.proofs.Unique.{store_unique}
use Rattle.keys.proofs.Unique.{keys_unique}
use Rattle.cache.proofs.Unique.{cache_unique}
use Rattle.sessions.proofs.Unique.{sessions_unique}
use Rattle.buffer.proofs.Unique.{buffer_unique}
use Rattle.rows.proofs.Unique.{rows_unique}
use Rattle.workers.proofs.Unique.{hands_unique, queue_unique}
use Rattle.plant.specs.View.{view_plant, plant_form}
use Rattle.plant.proofs.Formed.{form_parts}
use Rattle.plant.specs.declared.Plant.{Plant}

pub plant_unique : (a b : Plant) → plant_form a ≡ true → plant_form b ≡ true → view_plant a ≡ view_plant b → a ≡ b
unfolding view_plant
plant_unique a b f g e =
    let x = form_parts a f in
    let y = form_parts b g in
    λ i.
    record {
      store = store_unique a.store b.store x.store y.store (λ j. (e j).store) i;
      keys = keys_unique a.keys b.keys x.keys y.keys (λ j. (e j).keys) i;
      cache = cache_unique a.cache b.cache x.cache y.cache (λ j. (e j).cache) i;
      sessions = sessions_unique a.sessions b.sessions x.sessions y.sessions (λ j. (e j).slots) i;
      buffer = buffer_unique a.buffer b.buffer x.buffer y.buffer (λ j. (e j).buffer) i;
      rows = rows_unique a.rows b.rows x.rows y.rows (λ j. (e j).rows) i;
      hands = hands_unique a.hands b.hands x.hands y.hands (λ j. (e j).hands) i;
      queue = queue_unique a.queue b.queue x.queue y.queue (λ j. (e j).queue) i;
      clock = (e i).clock;
      near = (e i).near;
      next = (e i).next;
    }
