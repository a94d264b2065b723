-- What abandon asks, answers and leaves.
use mathlib.Core.Path.{◌≡◌, refl, ◌∙◌}
use mathlib.Core.Bool.{true}
use mathlib.Core.Option.{none, some}
use mathlib.Core.List.{List, []}
use lib.IntN.{ℤ}
use Rattle.rules.specs.Refusals.{first}
use Rattle.rules.specs.Values.{nat_of}
use Rattle.rules.specs.Calls.{Abandon, fine}
use Rattle.rules.specs.Conditions.{conditions}
use Rattle.rules.specs.Effects.{abandoned}
use Rattle.rules.specs.Step.{accepted, ending}
use Rattle.plant.specs.View.{view_plant, kept_plant}
use Rattle.plant.specs.declared.Plant.{Plant}
use Rattle.promises.specs.Promise.{result, Performs}
use Rattle.promises.proofs.Telling.{accepts, none_held, left_accepted}
use Rattle.caller.proofs.Standing.{Asks}

pub asks : Asks Abandon (λ z p. [])
unfolding conditions
asks = record { first_two = λ z lent p. refl }

pub abandons : (p : Plant) (z : ℤ) (lent : List ℤ) → first (conditions (Abandon z) lent (view_plant p)) ≡ none → fine [] ≡ (result (Abandon z) lent p).answer
unfolding accepted
abandons p z lent e = accepts (Abandon z) lent (view_plant p) e

pub frees : (p : Plant) (z : ℤ) (q : Plant) → (kept_plant p ≡ true → view_plant q ≡ ending (some (nat_of z)) (view_plant p)) → Performs (Abandon z) p q
unfolding accepted abandoned
frees p z q eq k lent h = eq k ∙ left_accepted (Abandon z) lent (view_plant p) (none_held (Abandon z) lent (view_plant p) _ refl h)
