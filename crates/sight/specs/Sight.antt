-- The plant of the tables that a session's call looks at: the others are as at set-up.
use Rattle.std.specs.Prelude.{Bool}
use Rattle.rules.specs.Tables as M
use Rattle.rules.specs.Tables.{setup}
use Rattle.store.specs.View.{view_store}
use Rattle.store.specs.declared.Store.{Store}
use Rattle.keys.specs.View.{view_keys}
use Rattle.keys.specs.declared.Keys.{Keys}
use Rattle.cache.specs.View.{view_cache}
use Rattle.cache.specs.declared.Cache.{Cache}
use Rattle.sessions.specs.View.{view_sessions}
use Rattle.sessions.specs.declared.Sessions.{Sessions}
use Rattle.buffer.specs.View.{view_buffer}
use Rattle.buffer.specs.declared.Buffer.{Buffer}
use Rattle.rows.specs.View.{view_rows}
use Rattle.rows.specs.declared.Rows.{Rows}
use Rattle.plant.specs.declared.Plant.{Plant}

-- the tables beside the store and the rows that say what it has
abbrev beside : Bool → Keys → Cache → Sessions → Buffer → M.Plant
beside near keys cache sessions buffer =
    M.with_keys (view_keys keys) (M.with_cache (view_cache cache) (M.with_slots (view_sessions sessions) (M.with_buffer (view_buffer buffer) (M.with_near near setup))))

unfoldable pub sight : Bool → Store → Keys → Cache → Sessions → Buffer → Rows → M.Plant
sight near store keys cache sessions buffer rows = M.with_store (view_store store) (M.with_rows (view_rows rows) (beside near keys cache sessions buffer))

-- without a look at the store, nor at the rows
unfoldable pub sight_away : Bool → Keys → Cache → Sessions → Buffer → M.Plant
sight_away near keys cache sessions buffer = beside near keys cache sessions buffer

-- what is at hand of a plant while its store is away
abbrev pub at_hand : Plant → M.Plant
at_hand p = sight_away p.near p.keys p.cache p.sessions p.buffer
