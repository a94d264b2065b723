-- What commit answers and leaves, one law for each way out.
use mathlib.Core.Path.{◌≡◌, refl, sym, ◌∙◌, ap}
use mathlib.Core.Bool.{Bool, true, false, not, ◌&&◌}
use mathlib.Core.List.{List, [], ◌∷◌, map}
use Prim.Native.Nat.{ℕ, ◌<◌, ◌≤◌, ◌+◌}
use lib.Dec.{leb}
use lib.IntN.{ℤ}
use lib.ListN.{length, length-append}
use mir.Syntax.{w64}
use mir.Val.{SFits}
use borrow.Author.Tests.{not-false, le-leb, lt-leb}
use Rattle.rules.specs.Limits.{buffer_limit}
use Rattle.rules.specs.Lists.{is_empty, pushed}
use Rattle.rules.specs.Values.{nat_of}
use Rattle.rules.specs.Refusals.{no_slot, buffer_full, first, ◌⇒◌}
use Rattle.rules.specs.Tables as M
use Rattle.rules.specs.Calls.{Commit, refused, fine}
use Rattle.rules.specs.Calls as C
use Rattle.rules.specs.Conditions.{own, conditions}
use Rattle.rules.specs.Effects.{buffered_after, up_to_date, committed}
use Rattle.rules.specs.Reading.{current, seen}
use Rattle.rules.specs.Step.{accepted}
use Rattle.rules.proofs.Laws.{and_true, not_met, pushed_room}
use Rattle.arguments.specs.Numbers.{session_number}
use Rattle.arguments.proofs.Numbers.{held}
use Rattle.changes.specs.View.{view_changes}
use Rattle.changes.specs.Form.{changes_form}
use Rattle.changes.specs.declared.Changes.{Changes}
use Rattle.keys.specs.View.{view_keys}
use Rattle.cache.specs.cached.View.{after_changes}
use Rattle.cache.specs.View.{view_cache}
use Rattle.cache.specs.Form.{cache_form}
use Rattle.cache.specs.declared.Cache.{Cache}
use Rattle.cache.proofs.Current.{current_all}
use Rattle.buffer.specs.batch.View.{view_batch}
use Rattle.buffer.specs.View.{view_buffer}
use Rattle.buffer.specs.Form.{buffer_form}
use Rattle.buffer.specs.declared.Buffer.{Buffer}
use Rattle.sessions.specs.session.View.{view_session}
use Rattle.sessions.specs.session.Form.{leases_form, session_form}
use Rattle.sessions.specs.declared.session.Session.{Session}
use Rattle.sessions.specs.View.{view_sessions}
use Rattle.sessions.specs.Form.{sessions_form}
use Rattle.sessions.specs.declared.Sessions.{Sessions}
use Rattle.plant.specs.View.{view_plant, kept_plant, plant_form}
use Rattle.plant.specs.declared.Plant.{Plant}
use Rattle.plant.proofs.PlantLaws.{kept_parts, cache_current}
use Rattle.plant.proofs.Formed.{form_parts, form_with_cache, form_with_sessions, form_with_buffer}
use Rattle.promises.specs.Promise.{result, Performs}
use Rattle.promises.proofs.Telling.{refuses, accepts, none_held, left_accepted}
use Rattle.promises.proofs.Numbers.{slot_is, number_is}
use Rattle.caller.proofs.Standing.{Asks}
use Rattle.call_commit.specs.Left.{left}

-- ── the buffer after it ──
module _ (n : ℕ) (cs : Changes) (e : Bool) (ee : e ≡ is_empty (view_changes cs)) where
  pub none_buffered : (b : Buffer) → e ≡ true → view_buffer b ≡ buffered_after n (view_changes cs) (view_buffer b)
  none_buffered b h = rw (sym ee, h) refl

  pub one_buffered : (b r : Buffer) → e ≡ false → view_buffer r ≡ pushed buffer_limit (view_buffer b) (view_batch (record { number = n; changes = cs })) → view_buffer r ≡ buffered_after n (view_changes cs) (view_buffer b)
  unfolding view_batch
  one_buffered b r h er = er ∙ rw (sym ee, h) refl

-- ── the answer ──
pub asks : Asks Commit (λ z p. (not (is_empty (own z p)) && leb buffer_limit (length p.buffer) ⇒ buffer_full) ∷ [])
unfolding conditions
asks = record { first_two = λ z lent p. refl }

-- where 15 alone is left to ask
module _ (p : Plant) (z : ℤ) (lent : List ℤ) (s : Session)
    (stands : first (conditions (Commit z) lent (view_plant p)) ≡ first ((not (is_empty (own z (view_plant p))) && leb buffer_limit (length (view_plant p).buffer) ⇒ buffer_full) ∷ []))
    (its : M.session (nat_of z) (view_sessions p.sessions) ≡ view_session s)
    (c : ℕ) (ec : c ≡ length (view_buffer p.buffer)) (b : Bool) (eb : b ≡ is_empty (view_changes s.changes)) where
  abbrev Answered : C.Answer → Type 0
  Answered a = a ≡ (result (Commit z) lent p).answer

  bare : is_empty (own z (view_plant p)) ≡ b
  unfolding view_session view_plant
  bare = ap (λ (x : M.Session). is_empty x.changes) its ∙ sym eb

  pub nothing_changed : b ≡ true → Answered (fine (c ∷ []))
  unfolding view_plant ◌⇒◌ accepted committed
  nothing_changed f =
      ap (λ (x : ℕ). fine (x ∷ [])) (ec ∙ rw (bare, f) refl) ∙ accepts (Commit z) lent (view_plant p) (stands ∙ rw (bare, f) refl)

  module _ (f : b ≡ false) where
    pub full : buffer_limit ≤ c → Answered (refused buffer_full)
    unfolding view_plant ◌⇒◌
    full l = refuses (Commit z) lent (view_plant p) _ (stands ∙ rw (bare, f, sym ec, le-leb buffer_limit c l) refl)

    one_more : c < buffer_limit → c + 1 ≡ length (buffered_after (nat_of z) (own z (view_plant p)) (view_buffer p.buffer))
    one_more l =
        let new : M.Batch = record { number = nat_of z; changes = own z (view_plant p) } in
        let room : length (view_buffer p.buffer) < buffer_limit = rw (sym ec) l in
        rw (bare, f, pushed_room buffer_limit (view_buffer p.buffer) new room, length-append (view_buffer p.buffer) (new ∷ []), sym ec) refl

    pub buffers : c < buffer_limit → Answered (fine ((c + 1) ∷ []))
    unfolding view_plant ◌⇒◌ accepted committed
    buffers l =
        ap (λ (x : ℕ). fine (x ∷ [])) (one_more l)
        ∙ accepts (Commit z) lent (view_plant p) (stands ∙ rw (bare, f, sym ec, lt-leb buffer_limit c l) refl)

-- ── the plant left ──
session_changes : (s : Session) → session_form s ≡ true → changes_form s.changes ≡ true
unfolding session_form
session_changes s f = (and_true (leases_form s.shared s.exclusive s.granted) (changes_form s.changes) f).1

module _ (p : Plant) (z : ℤ) (fits : SFits w64 z) (n : ℕ) (e : n ≡ session_number (held z))
    (s : Session) (es : view_session s ≡ M.session n (view_sessions p.sessions))
    (b : Buffer) (eb : view_buffer b ≡ buffered_after n (view_changes s.changes) (view_buffer p.buffer))
    (c : Cache) (ec : view_cache c ≡ map (λ x. after_changes (view_changes s.changes) (view_keys p.keys x.key) x) (view_cache p.cache))
    (t : Sessions) (et : view_sessions t ≡ M.freed n (view_sessions p.sessions)) where
  abbrev with_committed : Plant
  with_committed = left p (record { cache = c; sessions = t; buffer = b })

  -- the cached keys show the fields after the session's changes
  brought : kept_plant p ≡ true → view_cache c ≡ map (up_to_date (view_keys p.keys) (seen (view_plant p) (view_changes s.changes))) (view_cache p.cache)
  unfolding view_plant
  brought k = ec ∙ current_all (current (view_plant p)) (view_changes s.changes) (view_keys p.keys) (view_cache p.cache) (cache_current p k)

  pub commits : Performs (Commit z) p with_committed
  unfolding conditions view_plant view_session accepted committed
  commits k lent h =
      let m = none_held (Commit z) lent (view_plant p) _ refl h in
      let g : M.is_slot z (view_sessions p.sessions) ≡ true = not-false _ (not_met _ no_slot m.0) in
      let q : nat_of z ≡ n = number_is (view_plant p) (kept_parts p k) z fits n e (sym (slot_is (view_plant p) (kept_parts p k) z fits n e) ∙ g) in
      let x : (M.session (nat_of z) (view_sessions p.sessions)).changes ≡ view_changes s.changes =
      ap (λ (i : ℕ). (M.session i (view_sessions p.sessions)).changes) q ∙ ap (λ (y : M.Session). y.changes) (sym es) in
      rw (eb, brought k, et, sym q, sym x) refl
      ∙ left_accepted (Commit z) lent (view_plant p) m

  pub commits_form : (sessions_form p.sessions ≡ true → session_form s ≡ true) → (changes_form s.changes ≡ true → buffer_form p.buffer ≡ true → buffer_form b ≡ true)
      → (cache_form p.cache ≡ true → cache_form c ≡ true) → (sessions_form p.sessions ≡ true → sessions_form t ≡ true) → plant_form p ≡ true → plant_form with_committed ≡ true
  commits_form fs fb fc ft f =
      let changes = session_changes s (fs (form_parts p f).sessions) in
      form_with_buffer _ b (fb changes) (form_with_sessions _ t ft (form_with_cache p c fc f))
