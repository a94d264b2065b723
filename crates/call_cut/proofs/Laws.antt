-- What cut answers and leaves, one law for each way out.
use mathlib.Core.Path.{◌≡◌, refl, sym, ◌∙◌}
use mathlib.Core.Bool.{true, cond}
use mathlib.Core.List.{List, []}
use Prim.Native.Nat.{ℕ, ◌≤◌, ◌<◌}
use lib.Dec.{ltb}
use lib.IntN.{ℤ}
use mir.Syntax.{w64}
use mir.Val.{SFits}
use borrow.Author.Tests.{not-false}
use Rattle.rules.specs.Limits.{worker_count}
use Rattle.rules.specs.Lists.{override}
use Rattle.rules.specs.Values.{below}
use Rattle.rules.specs.Refusals.{out_of_range, ◌⇒◌}
use Rattle.rules.specs.Tables.{empty}
use Rattle.rules.specs.Calls.{Cut, refused, fine}
use Rattle.rules.specs.Calls as C
use Rattle.rules.specs.Conditions.{conditions}
use Rattle.rules.specs.Effects.{orphaned, cut}
use Rattle.rules.specs.Step.{accepted}
use Rattle.rules.proofs.Laws.{not_met}
use Rattle.promises.specs.Promise.{result, Performs}
use Rattle.promises.proofs.Telling.{refuses, accepts, none_held, left_accepted}
use Rattle.arguments.specs.Numbers.{index_number}
use Rattle.arguments.proofs.Numbers.{held, outside, inside, index_is, index_lt}
use Rattle.workers.specs.View.{view_hand, view_hands, view_queue}
use Rattle.workers.specs.Form.{hand_form, hands_form, queue_form}
use Rattle.workers.specs.declared.Hand.{Hand}
use Rattle.workers.specs.declared.Hands.{Hands}
use Rattle.workers.specs.declared.Queue.{Queue}
use Rattle.plant.specs.View.{view_plant, kept_plant, plant_form}
use Rattle.plant.specs.declared.Plant.{Plant}
use Rattle.plant.proofs.Formed.{form_with_hands, form_with_queue}
use Rattle.call_cut.specs.Left.{left}

module _ (p : Plant) (z : ℤ) (fits : SFits w64 z) (w : ℕ) (e : w ≡ index_number (held z) worker_count) (lent : List ℤ) (kept : kept_plant p ≡ true) where
  abbrev Answered : C.Answer → Type 0
  Answered a = a ≡ (result (Cut z) lent p).answer

  pub out_of_range_lem : worker_count ≤ w → Answered (refused out_of_range)
  unfolding conditions ◌⇒◌
  out_of_range_lem l = refuses (Cut z) lent (view_plant p) _ (rw (outside z fits worker_count w e l) refl)

  pub told : w < worker_count → Answered (fine [])
  unfolding conditions ◌⇒◌ accepted
  told l = accepts (Cut z) lent (view_plant p) (rw (inside z fits worker_count w e l) refl)

-- ── the plant left ──
module _ (p : Plant) (z : ℤ) (fits : SFits w64 z) (w : ℕ) (e : w ≡ index_number (held z) worker_count)
    (hand : Hand) (eh : view_hand hand ≡ empty)
    (hs : Hands) (ehs : view_hands hs ≡ cond (ltb w worker_count) (override (view_hands p.hands) w (view_hand hand)) (view_hands p.hands))
    (q : Queue) (eq : view_queue q ≡ orphaned w (view_queue p.queue)) where
  abbrev with_cut : Plant
  with_cut = left p (record { hands = hs; queue = q })

  pub emptied : Performs (Cut z) p with_cut
  unfolding conditions view_plant accepted cut
  emptied kept lent h =
      let m = none_held (Cut z) lent (view_plant p) _ refl h in
      let g : below z worker_count ≡ true = not-false (below z worker_count) (not_met _ out_of_range m.0) in
      rw (ehs, index_lt z fits worker_count w e g, eh, eq, sym (index_is z fits worker_count w e g)) refl
      ∙ left_accepted (Cut z) lent (view_plant p) m

  pub emptied_form : (hands_form p.hands ≡ true → hand_form hand ≡ true → hands_form hs ≡ true) → hand_form hand ≡ true → (queue_form p.queue ≡ true → queue_form q ≡ true) → plant_form p ≡ true
      → plant_form with_cut ≡ true
  emptied_form fh ff fq f = form_with_queue _ q fq (form_with_hands p hs (λ x. fh x ff) f)
