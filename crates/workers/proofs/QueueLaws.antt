-- The queue lease through its view: one law for each way out of a method.
use Prim.Native.Nat.{ℕ, ◌+◌}
use mathlib.Core.Path.{◌≡◌, ◌∙◌}
use mathlib.Core.Bool.{Bool, true, false, not, ◌&&◌}
use lib.Dec.{eqb, leb}
use Rattle.rules.specs.Limits.{lease_ticks}
use Rattle.rules.specs.Tables as M
use Rattle.rules.specs.Effects.{lapsed_queue, ended, orphaned}
use Rattle.rules.proofs.Laws.{by_case, and_true}
use Rattle.workers.specs.View.{owner_of, view_queue}
use Rattle.workers.specs.Form.{queue_form}
use Rattle.workers.specs.declared.Queue.{Queue}

module _ (q : Queue) where
  pub leased_is : q.live ≡ M.is_leased (view_queue q)
  unfolding view_queue
  leased_is = by_case q.live (λ e. rw e) (λ e. rw e)

  -- ── the clock ──
  module _ (clock : ℕ) (t : Bool) (a : t ≡ leb (q.since + lease_ticks) clock) where
    pub lapse_live : t ≡ false → view_queue q ≡ lapsed_queue clock (view_queue q)
    unfolding view_queue
    lapse_live e = by_case q.live (λ l. rw (l, ← a, e)) (λ l. rw l)

    pub lapse_over : (r : Queue) → t ≡ true → view_queue r ≡ M.idle → view_queue r ≡ lapsed_queue clock (view_queue q)
    unfolding view_queue
    lapse_over r e h = h ∙ by_case q.live (λ l. rw (l, ← a, e)) (λ l. rw l)

  -- ── whose it is ──
  module _ (w : ℕ) (t : Bool) (a : t ≡ M.owned_by w (owner_of q)) where
    pub end_own : (r : Queue) → t ≡ true → view_queue r ≡ M.idle → view_queue r ≡ ended w (view_queue q)
    unfolding view_queue owner_of
    end_own r e h = h ∙ by_case q.live (λ l. rw (l, ← a, e)) (λ l. rw l)

    pub end_other : t ≡ false → view_queue q ≡ ended w (view_queue q)
    unfolding view_queue owner_of
    end_other e = by_case q.live (λ l. rw (l, ← a, e)) (λ l. rw l)

    pub cut_own : (o : ℕ) → t ≡ true → view_queue (record { live = q.live; owned = false; owner = o; since = q.since }) ≡ orphaned w (view_queue q)
    unfolding view_queue owner_of
    cut_own o e = by_case q.live (λ l. rw (l, ← a, e)) (λ l. rw l)

    pub cut_other : t ≡ false → view_queue q ≡ orphaned w (view_queue q)
    unfolding view_queue owner_of
    cut_other e = by_case q.live (λ l. rw (l, ← a, e)) (λ l. rw l)

  -- ── the one form ──
  pub cut_form : queue_form q ≡ true → queue_form (record { live = q.live; owned = false; owner = 0; since = q.since }) ≡ true
  unfolding queue_form
  cut_form f = by_case q.live (λ l. rw l) (λ l. rw l (over l))
    where
      over : q.live ≡ false → eqb q.since 0 ≡ true
      over l = (and_true (not q.owned && eqb q.owner 0) (eqb q.since 0) (rw l at f)).1
