-- The plant's form, table by table: its parts, and that it is kept by a plant with another table in form.
use Prim.Native.Nat.{ℕ}
use mathlib.Core.Path.{◌≡◌, sym, ◌∙◌}
use mathlib.Core.Bool.{Bool, true}
use Rattle.rules.proofs.Laws.{and_true}
use Rattle.store.specs.View.{store_form}
use Rattle.store.specs.declared.Store.{Store}
use Rattle.keys.specs.Form.{keys_form}
use Rattle.keys.specs.declared.Keys.{Keys}
use Rattle.cache.specs.Form.{cache_form}
use Rattle.cache.specs.declared.Cache.{Cache}
use Rattle.sessions.specs.Form.{sessions_form}
use Rattle.sessions.specs.declared.Sessions.{Sessions}
use Rattle.buffer.specs.Form.{buffer_form}
use Rattle.buffer.specs.declared.Buffer.{Buffer}
use Rattle.rows.specs.View.{rows_form}
use Rattle.rows.specs.declared.Rows.{Rows}
use Rattle.workers.specs.Form.{hands_form, queue_form}
use Rattle.workers.specs.declared.Hands.{Hands}
use Rattle.workers.specs.declared.Queue.{Queue}
use Rattle.plant.specs.View.{plant_form}
use Rattle.plant.specs.With.{with_store, with_keys, with_cache, with_sessions, with_buffer, with_rows, with_hands, with_queue, with_clock, with_near, with_next}
use Rattle.plant.specs.declared.Plant.{Plant}

pub record Formed (p : Plant) : Type 0 where
  pub store : store_form p.store ≡ true
  pub keys : keys_form p.keys ≡ true
  pub cache : cache_form p.cache ≡ true
  pub sessions : sessions_form p.sessions ≡ true
  pub buffer : buffer_form p.buffer ≡ true
  pub rows : rows_form p.rows ≡ true
  pub hands : hands_form p.hands ≡ true
  pub queue : queue_form p.queue ≡ true

pub form_parts : (p : Plant) → plant_form p ≡ true → Formed p
unfolding plant_form
form_parts p e =
    let q = and_true _ (queue_form p.queue) e in
    let h = and_true _ (hands_form p.hands) q.0 in
    let r = and_true _ (rows_form p.rows) h.0 in
    let b = and_true _ (buffer_form p.buffer) r.0 in
    let l = and_true _ (sessions_form p.sessions) b.0 in
    let c = and_true _ (cache_form p.cache) l.0 in
    let k = and_true (store_form p.store) (keys_form p.keys) c.0 in
    record { store = k.0; keys = k.1; cache = c.1; sessions = l.1; buffer = b.1; rows = r.1; hands = h.1; queue = q.1 }

pub formed : (p : Plant) → Formed p → plant_form p ≡ true
unfolding plant_form
formed p f = rw (f.store, f.keys, f.cache, f.sessions, f.buffer, f.rows, f.hands, f.queue)

-- ── the plant with one table replaced ──
-- in form where the table is; the tables without a form of their own may be anything
module _ (p : Plant) where
  pub form_with_store : (t : Store) → (store_form p.store ≡ true → store_form t ≡ true) → plant_form p ≡ true → plant_form (with_store p t) ≡ true
  unfolding plant_form
  form_with_store t g f = let x = (form_parts p f).store in rw (g x ∙ sym x) f

  pub form_with_keys : (t : Keys) → (keys_form p.keys ≡ true → keys_form t ≡ true) → plant_form p ≡ true → plant_form (with_keys p t) ≡ true
  unfolding plant_form
  form_with_keys t g f = let x = (form_parts p f).keys in rw (g x ∙ sym x) f

  pub form_with_cache : (t : Cache) → (cache_form p.cache ≡ true → cache_form t ≡ true) → plant_form p ≡ true → plant_form (with_cache p t) ≡ true
  unfolding plant_form
  form_with_cache t g f = let x = (form_parts p f).cache in rw (g x ∙ sym x) f

  pub form_with_sessions : (t : Sessions) → (sessions_form p.sessions ≡ true → sessions_form t ≡ true) → plant_form p ≡ true → plant_form (with_sessions p t) ≡ true
  unfolding plant_form
  form_with_sessions t g f = let x = (form_parts p f).sessions in rw (g x ∙ sym x) f

  pub form_with_buffer : (t : Buffer) → (buffer_form p.buffer ≡ true → buffer_form t ≡ true) → plant_form p ≡ true → plant_form (with_buffer p t) ≡ true
  unfolding plant_form
  form_with_buffer t g f = let x = (form_parts p f).buffer in rw (g x ∙ sym x) f

  pub form_with_rows : (t : Rows) → (rows_form p.rows ≡ true → rows_form t ≡ true) → plant_form p ≡ true → plant_form (with_rows p t) ≡ true
  unfolding plant_form
  form_with_rows t g f = let x = (form_parts p f).rows in rw (g x ∙ sym x) f

  pub form_with_hands : (t : Hands) → (hands_form p.hands ≡ true → hands_form t ≡ true) → plant_form p ≡ true → plant_form (with_hands p t) ≡ true
  unfolding plant_form
  form_with_hands t g f = let x = (form_parts p f).hands in rw (g x ∙ sym x) f

  pub form_with_queue : (t : Queue) → (queue_form p.queue ≡ true → queue_form t ≡ true) → plant_form p ≡ true → plant_form (with_queue p t) ≡ true
  unfolding plant_form
  form_with_queue t g f = let x = (form_parts p f).queue in rw (g x ∙ sym x) f

  pub form_with_clock : (t : ℕ) → plant_form p ≡ true → plant_form (with_clock p t) ≡ true
  unfolding plant_form
  form_with_clock t f = f

  pub form_with_near : (t : Bool) → plant_form p ≡ true → plant_form (with_near p t) ≡ true
  unfolding plant_form
  form_with_near t f = f

  pub form_with_next : (t : ℕ) → plant_form p ≡ true → plant_form (with_next p t) ≡ true
  unfolding plant_form
  form_with_next t f = f
