-- What take answers and leaves, one law for each way out.
use mathlib.Core.Path.{◌≡◌, refl, sym, ◌∙◌, ap}
use mathlib.Core.Bool.{Bool, true, false, cond}
use mathlib.Core.Option.{some}
use mathlib.Core.List.{List, [], ◌∷◌}
use Prim.Native.Nat.{ℕ, ◌≤◌, ◌<◌}
use lib.Dec.{ltb}
use lib.IntN.{ℤ}
use mir.Syntax.{w64}
use mir.Val.{SFits}
use borrow.Author.Tests.{not-false}
use Rattle.rules.specs.Limits.{worker_count}
use Rattle.rules.specs.Lists.{is_empty, override}
use Rattle.rules.specs.Values.{below, nat_of}
use Rattle.rules.specs.Refusals.{out_of_range, wrong_hand, queue_leased, nothing_buffered, ◌⇒◌}
use Rattle.rules.specs.Tables.{full, holds, is_leased, leased, oldest}
use Rattle.rules.specs.Calls.{Take, refused, fine}
use Rattle.rules.specs.Conditions.{conditions}
use Rattle.rules.specs.Calls as C
use Rattle.rules.specs.Effects.{taken}
use Rattle.rules.specs.Step.{accepted}
use Rattle.rules.proofs.Laws.{not_met}
use Rattle.promises.specs.Promise.{result, Performs}
use Rattle.promises.proofs.Telling.{refuses, accepts, none_held, left_accepted}
use Rattle.arguments.specs.Numbers.{index_number}
use Rattle.arguments.proofs.Numbers.{held, outside, inside, index_is, index_lt}
use Rattle.workers.specs.View.{view_hand, view_hands, view_queue}
use Rattle.workers.specs.Form.{hand_form, hands_form, queue_form}
use Rattle.workers.specs.declared.Hand.{Hand}
use Rattle.workers.specs.declared.Hands.{Hands}
use Rattle.workers.specs.declared.Queue.{Queue}
use Rattle.buffer.specs.View.{view_buffer}
use Rattle.plant.specs.View.{view_plant, kept_plant, plant_form}
use Rattle.plant.specs.declared.Plant.{Plant}
use Rattle.plant.proofs.Formed.{form_with_hands, form_with_queue}
use Rattle.call_take.specs.Left.{left}
use Rattle.promises.proofs.Worker.{hand_at}

module _ (p : Plant) (z : ℤ) (fits : SFits w64 z) (w : ℕ) (e : w ≡ index_number (held z) worker_count) (lent : List ℤ) (kept : kept_plant p ≡ true) where
  abbrev Answered : C.Answer → Type 0
  Answered a = a ≡ (result (Take z) lent p).answer

  pub out_of_range_lem : worker_count ≤ w → Answered (refused out_of_range)
  unfolding conditions ◌⇒◌
  out_of_range_lem l = refuses (Take z) lent (view_plant p) _ (rw (outside z fits worker_count w e l) refl)

  module _ (l : w < worker_count) (h : Hand) (eh : view_hand h ≡ view_hands p.hands w) (f : Bool) (ef : f ≡ full (view_hand h)) where
    in_range_lem : below z worker_count ≡ true
    in_range_lem = inside z fits worker_count w e l

    hand_is : full (view_hands p.hands (nat_of z)) ≡ f
    hand_is = ap full (hand_at p.hands z fits w e l h eh) ∙ sym ef

    pub hand_full : f ≡ true → Answered (refused wrong_hand)
    unfolding conditions view_plant ◌⇒◌
    hand_full g = refuses (Take z) lent (view_plant p) _ (rw (in_range_lem, hand_is, g) refl)

    module _ (g : f ≡ false) (q : Bool) (eq : q ≡ is_leased (view_queue p.queue)) where
      pub queue_leased_lem : q ≡ true → Answered (refused queue_leased)
      unfolding conditions view_plant ◌⇒◌
      queue_leased_lem k = refuses (Take z) lent (view_plant p) _ (rw (in_range_lem, hand_is, g, sym eq, k) refl)

      module _ (k : q ≡ false) (b : Bool) (eb : b ≡ is_empty (view_buffer p.buffer)) where
        pub buffer_empty : b ≡ true → Answered (refused nothing_buffered)
        unfolding conditions view_plant ◌⇒◌
        buffer_empty i = refuses (Take z) lent (view_plant p) _ (rw (in_range_lem, hand_is, g, sym eq, k, sym eb, i) refl)

        pub oldest_told : b ≡ false → (n : ℕ) → n ≡ oldest (view_buffer p.buffer) → Answered (fine (n ∷ []))
        unfolding conditions view_plant ◌⇒◌ accepted
        oldest_told i n en = ap (λ (m : ℕ). fine (m ∷ [])) en ∙ accepts (Take z) lent (view_plant p) (rw (in_range_lem, hand_is, g, sym eq, k, sym eb, i) refl)

-- ── the plant left ──
module _ (p : Plant) (z : ℤ) (fits : SFits w64 z) (w : ℕ) (e : w ≡ index_number (held z) worker_count)
    (n : ℕ) (en : n ≡ oldest (view_buffer p.buffer)) (hand : Hand) (eh : view_hand hand ≡ holds n false)
    (hs : Hands) (ehs : view_hands hs ≡ cond (ltb w worker_count) (override (view_hands p.hands) w (view_hand hand)) (view_hands p.hands))
    (q : Queue) (eq : view_queue q ≡ leased (some w) p.clock) where
  abbrev with_taken : Plant
  with_taken = left p (record { hands = hs; queue = q })

  pub in_hand_lem : Performs (Take z) p with_taken
  unfolding conditions view_plant accepted taken
  in_hand_lem kept lent h =
      let m = none_held (Take z) lent (view_plant p) _ refl h in
      let g : below z worker_count ≡ true = not-false (below z worker_count) (not_met _ out_of_range m.0) in
      rw (ehs, index_lt z fits worker_count w e g, eh, en, eq, sym (index_is z fits worker_count w e g)) refl
      ∙ left_accepted (Take z) lent (view_plant p) m

  pub in_hand_form : (hands_form p.hands ≡ true → hand_form hand ≡ true → hands_form hs ≡ true) → hand_form hand ≡ true → queue_form q ≡ true → plant_form p ≡ true
      → plant_form with_taken ≡ true
  in_hand_form fh ff fq f = form_with_queue _ q (λ x. fq) (form_with_hands p hs (λ x. fh x ff) f)
