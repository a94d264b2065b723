-- What the calls of a worker share: its hand.
use mathlib.Core.Path.{◌≡◌, sym, ◌∙◌, ap}
use Prim.Native.Nat.{ℕ, ◌<◌}
use lib.IntN.{ℤ}
use mir.Syntax.{w64}
use mir.Val.{SFits}
use Rattle.rules.specs.Limits.{worker_count}
use Rattle.rules.specs.Values.{nat_of}
use Rattle.arguments.specs.Numbers.{index_number}
use Rattle.arguments.proofs.Numbers.{held, inside_is}
use Rattle.workers.specs.View.{view_hand, view_hands}
use Rattle.workers.specs.declared.Hand.{Hand}
use Rattle.workers.specs.declared.Hands.{Hands}

pub hand_at : (hs : Hands) (z : ℤ) → SFits w64 z → (w : ℕ) → w ≡ index_number (held z) worker_count → w < worker_count
    → (h : Hand) → view_hand h ≡ view_hands hs w → view_hands hs (nat_of z) ≡ view_hand h
hand_at hs z fits w e l h eh = ap (view_hands hs) (inside_is z fits worker_count w e l) ∙ sym eh
