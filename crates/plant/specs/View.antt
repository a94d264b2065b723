-- The plant as the rules see it, table by table, its one form, and what holds of it between calls.
use Rattle.std.specs.Prelude.{Bool, ◌&&◌}
use Rattle.rules.specs.Tables as M
use Rattle.rules.specs.Kept.{kept}
use Rattle.store.specs.View.{view_store, store_form}
use Rattle.keys.specs.View.{view_keys}
use Rattle.keys.specs.Form.{keys_form}
use Rattle.cache.specs.View.{view_cache}
use Rattle.cache.specs.Form.{cache_form}
use Rattle.sessions.specs.View.{view_sessions}
use Rattle.sessions.specs.Form.{sessions_form}
use Rattle.buffer.specs.View.{view_buffer}
use Rattle.buffer.specs.Form.{buffer_form}
use Rattle.rows.specs.View.{view_rows, rows_form}
use Rattle.workers.specs.View.{view_hands, view_queue}
use Rattle.workers.specs.Form.{hands_form, queue_form}
use Rattle.plant.specs.declared.Plant.{Plant}

unfoldable pub view_plant : Plant → M.Plant
view_plant p =
    record {
      store = view_store p.store;
      keys = view_keys p.keys;
      cache = view_cache p.cache;
      slots = view_sessions p.sessions;
      buffer = view_buffer p.buffer;
      rows = view_rows p.rows;
      hands = view_hands p.hands;
      queue = view_queue p.queue;
      clock = p.clock;
      near = p.near;
      next = p.next;
    }

unfoldable pub plant_form : Plant → Bool
plant_form p =
    store_form p.store && keys_form p.keys && cache_form p.cache && sessions_form p.sessions
    && buffer_form p.buffer && rows_form p.rows && hands_form p.hands && queue_form p.queue

-- the rules that the tables keep between calls, of the struct
unfoldable pub kept_plant : Plant → Bool
kept_plant p = plant_form p && kept (view_plant p)
