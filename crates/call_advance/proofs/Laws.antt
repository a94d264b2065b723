-- What advance answers and leaves, one law for each way out.
use mathlib.Core.Path.{◌≡◌, refl, sym, ◌∙◌, ap}
use mathlib.Core.Bool.{true, false, cond}
use mathlib.Core.List.{List, [], ◌∷◌}
use Prim.Native.Nat.{ℕ, suc, ◌+◌, ◌-◌, ◌≤◌, ◌<◌}
use native.Mathlib.Omega.{arith}
use lib.Dec.{ltb}
use lib.IntN.{ℤ}
use mir.Syntax.{w64}
use mir.Val.{SFits}
use borrow.Author.Tests.{lt-ltb, le-ltb, not-false}
use Rattle.rules.specs.Limits.{advance_limit, last_tick}
use Rattle.rules.specs.Lists.{keep}
use Rattle.rules.specs.Values.{below, nat_of}
use Rattle.rules.specs.Refusals.{out_of_range, clock_end, ◌⇒◌}
use Rattle.rules.specs.Tables.{each}
use Rattle.rules.specs.Calls as C
use Rattle.rules.specs.Calls.{Advance, refused, fine}
use Rattle.rules.specs.Conditions.{conditions}
use Rattle.rules.specs.Effects.{advanced, stays, is_lost, lapse, lapsed_queue}
use Rattle.rules.specs.Step.{accepted}
use Rattle.rules.proofs.Laws.{by_case, not_met}
use Rattle.promises.specs.Promise.{result, Performs}
use Rattle.promises.proofs.Telling.{refuses, accepts, none_held, left_accepted}
use Rattle.std.specs.Prelude.{Option, Some, None, unwrap_or}
use Rattle.arguments.specs.Numbers.{index_of}
use Rattle.arguments.proofs.Numbers.{held, indexed}
use Rattle.docset.specs.Sets.{docs}
use Rattle.keys.specs.View.{view_keys}
use Rattle.cache.specs.View.{view_cache}
use Rattle.cache.specs.Form.{cache_form}
use Rattle.cache.specs.declared.Cache.{Cache}
use Rattle.sessions.specs.View.{view_sessions}
use Rattle.sessions.specs.Form.{sessions_form}
use Rattle.sessions.specs.declared.Sessions.{Sessions}
use Rattle.workers.specs.View.{view_queue}
use Rattle.workers.specs.Form.{queue_form}
use Rattle.workers.specs.declared.Queue.{Queue}
use Rattle.plant.specs.View.{view_plant, kept_plant, plant_form}
use Rattle.plant.specs.declared.Plant.{Plant}
use Rattle.plant.proofs.Formed.{form_with_cache, form_with_sessions, form_with_queue, form_with_clock}
use Rattle.call_advance.specs.Left.{left}

-- ── the tick after some ticks; o is what `later` answered ──
abbrev later_of : ℕ → Option ℕ
later_of k = cond (ltb last_tick k) None (Some k)

module _ (k : ℕ) (o : Option ℕ) (e : o ≡ later_of k) where
  past_end : o ≡ None → ltb last_tick k ≡ true
  past_end h = let q : None ≡ later_of k = sym h ∙ e in by_case (ltb last_tick k) (λ t. t) (λ t. cc (rw t at q))

  module _ (now : ℕ) (h : o ≡ Some now) where
    told : Some now ≡ later_of k
    told = sym h ∙ e

    within : ltb last_tick k ≡ false
    within = by_case (ltb last_tick k) (λ t. cc (rw t at told)) (λ t. t)

    is_later : now ≡ k
    is_later = cc (rw within at told)

module _ (p : Plant) (z : ℤ) (lent : List ℤ) (kept : kept_plant p ≡ true) where
  abbrev Answered : C.Answer → Type 0
  Answered a = a ≡ (result (Advance z) lent p).answer

  pub out_of_range_lem : below z (suc advance_limit) ≡ false → Answered (refused out_of_range)
  unfolding conditions ◌⇒◌
  out_of_range_lem l = refuses (Advance z) lent (view_plant p) _ (rw l refl)

  module _ (g : below z (suc advance_limit) ≡ true) (n : ℕ) (i : nat_of z ≡ n) (o : Option ℕ) (e : o ≡ later_of (p.clock + n)) where
    pub clock_ends : o ≡ None → Answered (refused clock_end)
    unfolding conditions view_plant ◌⇒◌
    clock_ends h = refuses (Advance z) lent (view_plant p) _ (rw (g, i, past_end (p.clock + n) o e h) refl)

    pub tick_told : (now : ℕ) → o ≡ Some now → Answered (fine (now ∷ []))
    unfolding conditions view_plant ◌⇒◌ accepted
    tick_told now h =
        ap (λ (t : ℕ). fine (t ∷ [])) (is_later (p.clock + n) o e now h ∙ ap (λ (m : ℕ). p.clock + m) (sym i))
        ∙ accepts (Advance z) lent (view_plant p) (rw (g, i, within (p.clock + n) o e now h) refl)

-- ── the plant left: n ticks, the clock at now ──
module _ (p : Plant) (z : ℤ) (fits : SFits w64 z) (t : Option ℕ) (et : t ≡ index_of (held z) (suc advance_limit)) (n : ℕ) (en : n ≡ unwrap_or t 0)
    (o : Option ℕ) (eo : o ≡ later_of (p.clock + n)) (now : ℕ) (ew : now ≡ unwrap_or o p.clock)
    (lost : ℕ) (el : docs lost ≡ is_lost now (view_sessions p.sessions))
    (ca : Cache) (ec : view_cache ca ≡ keep (stays (docs lost) (view_keys p.keys)) (view_cache p.cache))
    (ss : Sessions) (es : view_sessions ss ≡ each (lapse now) (view_sessions p.sessions))
    (q : Queue) (eq : view_queue q ≡ lapsed_queue now (view_queue p.queue)) where
  abbrev gone_on : Plant
  gone_on = left p (record { cache = ca; sessions = ss; queue = q; clock = now })

  pub gone_on_lem : Performs (Advance z) p gone_on
  unfolding conditions view_plant accepted advanced
  gone_on_lem kept lent h =
      let m = none_held (Advance z) lent (view_plant p) _ refl h in
      let g : below z (suc advance_limit) ≡ true = not-false (below z (suc advance_limit)) (not_met _ out_of_range m.0) in
      let i : n ≡ nat_of z = en ∙ rw (indexed z fits (suc advance_limit) t et, g) refl in
      let w : ltb last_tick (p.clock + nat_of z) ≡ false = not_met (ltb last_tick (p.clock + nat_of z)) clock_end m.1.0 in
      let l : now ≡ p.clock + nat_of z = ew ∙ rw (eo, i, w) refl in
      rw (ec, el, es, eq, l) refl
      ∙ left_accepted (Advance z) lent (view_plant p) m

  pub gone_on_form : (cache_form p.cache ≡ true → cache_form ca ≡ true) → (sessions_form p.sessions ≡ true → sessions_form ss ≡ true) → (queue_form p.queue ≡ true → queue_form q ≡ true)
      → plant_form p ≡ true → plant_form gone_on ≡ true
  gone_on_form fc fs fq f =
      form_with_clock _ now (form_with_queue _ q fq (form_with_sessions _ ss fs (form_with_cache p ca fc f)))
