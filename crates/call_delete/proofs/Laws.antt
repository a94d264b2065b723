-- What delete answers and leaves, one law for each way out.
use mathlib.Core.Path.{◌≡◌, refl, sym, ◌∙◌}
use mathlib.Core.Bool.{Bool, true, false, cond, ◌&&◌}
use mathlib.Core.List.{List, [], ◌∷◌}
use Prim.Native.Nat.{ℕ, ◌≤◌, ◌<◌}
use lib.Dec.{ltb}
use lib.IntN.{ℤ}
use mir.Syntax.{w64}
use mir.Val.{SFits}
use borrow.Author.Tests.{not-false}
use Rattle.rules.specs.Limits.{worker_count}
use Rattle.rules.specs.Lists.{bit, override}
use Rattle.rules.specs.Values.{below, nat_of}
use Rattle.rules.specs.Refusals.{out_of_range, wrong_hand, ◌⇒◌}
use Rattle.rules.specs.Tables as M
use Rattle.rules.specs.Tables.{empty, full, replied, handed, is_buffered, unbuffer}
use Rattle.rules.specs.Calls.{Delete, refused, fine}
use Rattle.rules.specs.Calls as C
use Rattle.rules.specs.Conditions.{conditions}
use Rattle.rules.specs.Effects.{ended, deleted}
use Rattle.rules.specs.Step.{accepted}
use Rattle.rules.proofs.Laws.{not_met}
use Rattle.promises.specs.Promise.{result, Performs}
use Rattle.promises.proofs.Telling.{refuses, accepts, none_held, left_accepted}
use Rattle.arguments.specs.Numbers.{index_number}
use Rattle.arguments.proofs.Numbers.{held, outside, inside, index_is, index_lt}
use Rattle.workers.specs.View.{view_hand, view_hands, view_queue}
use Rattle.workers.specs.Form.{hand_form, hands_form, queue_form}
use Rattle.workers.specs.declared.Hand.{Hand}
use Rattle.workers.specs.declared.Hands.{Hands}
use Rattle.workers.specs.declared.Queue.{Queue}
use Rattle.buffer.specs.View.{view_buffer}
use Rattle.buffer.specs.Form.{buffer_form}
use Rattle.buffer.specs.declared.Buffer.{Buffer}
use Rattle.plant.specs.View.{view_plant, kept_plant, plant_form}
use Rattle.plant.specs.declared.Plant.{Plant}
use Rattle.plant.proofs.Formed.{form_with_buffer, form_with_hands, form_with_queue}
use Rattle.call_delete.specs.Left.{left}
use Rattle.promises.proofs.Worker.{hand_at}

-- only a full hand has a reply
full-replied : (h : M.Hand) → full h && replied h ≡ replied h
full-replied M.empty = refl
full-replied (M.holds n r) = refl

module _ (p : Plant) (z : ℤ) (fits : SFits w64 z) (w : ℕ) (e : w ≡ index_number (held z) worker_count) (lent : List ℤ) (kept : kept_plant p ≡ true) where
  abbrev Answered : C.Answer → Type 0
  Answered a = a ≡ (result (Delete z) lent p).answer

  pub out_of_range_lem : worker_count ≤ w → Answered (refused out_of_range)
  unfolding conditions ◌⇒◌
  out_of_range_lem l = refuses (Delete z) lent (view_plant p) _ (rw (outside z fits worker_count w e l) refl)

  module _ (l : w < worker_count) (h : Hand) (eh : view_hand h ≡ view_hands p.hands w) (f : Bool) (ef : f ≡ replied (view_hand h)) where
    hand_is : view_hands p.hands (nat_of z) ≡ view_hand h
    hand_is = hand_at p.hands z fits w e l h eh

    pub no_reply : f ≡ false → Answered (refused wrong_hand)
    unfolding conditions view_plant ◌⇒◌
    no_reply g = refuses (Delete z) lent (view_plant p) _ (rw (inside z fits worker_count w e l, hand_is, full-replied (view_hand h), sym ef, g) refl)

    pub buffered_told : f ≡ true → (n : ℕ) → n ≡ handed (view_hand h) → (b : Bool) → b ≡ is_buffered n (view_buffer p.buffer) → Answered (fine (bit b ∷ []))
    unfolding conditions view_plant ◌⇒◌ accepted
    buffered_told g n en b eb =
        rw (eb, en, sym hand_is) (accepts (Delete z) lent (view_plant p) (rw (inside z fits worker_count w e l, hand_is, full-replied (view_hand h), sym ef, g) refl))

-- ── the plant left ──
module _ (p : Plant) (z : ℤ) (fits : SFits w64 z) (w : ℕ) (e : w ≡ index_number (held z) worker_count)
    (old : Hand) (eo : view_hand old ≡ view_hands p.hands w) (n : ℕ) (en : n ≡ handed (view_hand old)) (hand : Hand) (eh : view_hand hand ≡ empty)
    (bs : Buffer) (ebs : view_buffer bs ≡ unbuffer n (view_buffer p.buffer))
    (hs : Hands) (ehs : view_hands hs ≡ cond (ltb w worker_count) (override (view_hands p.hands) w (view_hand hand)) (view_hands p.hands))
    (q : Queue) (eq : view_queue q ≡ ended w (view_queue p.queue)) where
  abbrev unheld : Plant
  unheld = left p (record { buffer = bs; hands = hs; queue = q })

  pub unbuffered : Performs (Delete z) p unheld
  unfolding conditions view_plant accepted deleted
  unbuffered kept lent h =
      let m = none_held (Delete z) lent (view_plant p) _ refl h in
      let g : below z worker_count ≡ true = not-false (below z worker_count) (not_met _ out_of_range m.0) in
      rw (ebs, en, eo, ehs, index_lt z fits worker_count w e g, eh, eq, sym (index_is z fits worker_count w e g)) refl
      ∙ left_accepted (Delete z) lent (view_plant p) m

  pub unbuffered_form : (buffer_form p.buffer ≡ true → buffer_form bs ≡ true) → (hands_form p.hands ≡ true → hand_form hand ≡ true → hands_form hs ≡ true) → hand_form hand ≡ true
      → (queue_form p.queue ≡ true → queue_form q ≡ true) → plant_form p ≡ true
      → plant_form unheld ≡ true
  unbuffered_form fb fh ff fq f = form_with_queue _ q fq (form_with_hands _ hs (λ x. fh x ff) (form_with_buffer p bs fb f))
