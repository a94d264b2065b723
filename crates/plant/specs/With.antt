-- The plant with one table replaced; what a call leaves is written by these.
use Rattle.std.specs.Prelude.{ℕ, Bool}
use Rattle.store.specs.declared.Store.{Store}
use Rattle.keys.specs.declared.Keys.{Keys}
use Rattle.cache.specs.declared.Cache.{Cache}
use Rattle.sessions.specs.declared.Sessions.{Sessions}
use Rattle.buffer.specs.declared.Buffer.{Buffer}
use Rattle.rows.specs.declared.Rows.{Rows}
use Rattle.workers.specs.declared.Hands.{Hands}
use Rattle.workers.specs.declared.Queue.{Queue}
use Rattle.plant.specs.declared.Plant.{Plant}

abbrev pub with_store : Plant → Store → Plant
with_store p t = record { store = t; keys = p.keys; cache = p.cache; sessions = p.sessions; buffer = p.buffer; rows = p.rows; hands = p.hands; queue = p.queue; clock = p.clock; near = p.near; next = p.next }

abbrev pub with_keys : Plant → Keys → Plant
with_keys p t = record { store = p.store; keys = t; cache = p.cache; sessions = p.sessions; buffer = p.buffer; rows = p.rows; hands = p.hands; queue = p.queue; clock = p.clock; near = p.near; next = p.next }

abbrev pub with_cache : Plant → Cache → Plant
with_cache p t = record { store = p.store; keys = p.keys; cache = t; sessions = p.sessions; buffer = p.buffer; rows = p.rows; hands = p.hands; queue = p.queue; clock = p.clock; near = p.near; next = p.next }

abbrev pub with_sessions : Plant → Sessions → Plant
with_sessions p t = record { store = p.store; keys = p.keys; cache = p.cache; sessions = t; buffer = p.buffer; rows = p.rows; hands = p.hands; queue = p.queue; clock = p.clock; near = p.near; next = p.next }

abbrev pub with_buffer : Plant → Buffer → Plant
with_buffer p t = record { store = p.store; keys = p.keys; cache = p.cache; sessions = p.sessions; buffer = t; rows = p.rows; hands = p.hands; queue = p.queue; clock = p.clock; near = p.near; next = p.next }

abbrev pub with_rows : Plant → Rows → Plant
with_rows p t = record { store = p.store; keys = p.keys; cache = p.cache; sessions = p.sessions; buffer = p.buffer; rows = t; hands = p.hands; queue = p.queue; clock = p.clock; near = p.near; next = p.next }

abbrev pub with_hands : Plant → Hands → Plant
with_hands p t = record { store = p.store; keys = p.keys; cache = p.cache; sessions = p.sessions; buffer = p.buffer; rows = p.rows; hands = t; queue = p.queue; clock = p.clock; near = p.near; next = p.next }

abbrev pub with_queue : Plant → Queue → Plant
with_queue p t = record { store = p.store; keys = p.keys; cache = p.cache; sessions = p.sessions; buffer = p.buffer; rows = p.rows; hands = p.hands; queue = t; clock = p.clock; near = p.near; next = p.next }

abbrev pub with_clock : Plant → ℕ → Plant
with_clock p t = record { store = p.store; keys = p.keys; cache = p.cache; sessions = p.sessions; buffer = p.buffer; rows = p.rows; hands = p.hands; queue = p.queue; clock = t; near = p.near; next = p.next }

abbrev pub with_near : Plant → Bool → Plant
with_near p t = record { store = p.store; keys = p.keys; cache = p.cache; sessions = p.sessions; buffer = p.buffer; rows = p.rows; hands = p.hands; queue = p.queue; clock = p.clock; near = t; next = p.next }

abbrev pub with_next : Plant → ℕ → Plant
with_next p t = record { store = p.store; keys = p.keys; cache = p.cache; sessions = p.sessions; buffer = p.buffer; rows = p.rows; hands = p.hands; queue = p.queue; clock = p.clock; near = p.near; next = t }
