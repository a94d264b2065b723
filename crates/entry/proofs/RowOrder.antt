-- A sweep takes what it can, oldest rows first, of the code: each claim is the rules', of the turns that the calls are.
use mathlib.Core.Path.{◌≡◌, refl, sym, ◌∙◌, ap, subst}
use mathlib.Core.Bool.{true}
use mathlib.Core.List.{List, [], ◌∷◌}
use Rattle.rules.specs.Lists.{has, is_once, InOrder}
use Rattle.rules.specs.Tables as M
use Rattle.rules.specs.Calls as C
use Rattle.rules.specs.Kept.{kept}
use Rattle.rules.specs.History.{World, initial, left_by}
use Rattle.rules.specs.Answers.{Carries}
use Rattle.rules.specs.Claims.{Counts}
use Rattle.rules.specs.RowOrder.{came, StandInOrder, applied_from, applied_order, TakesOldest}
use Rattle.rules.proofs.Laws.{and_true}
use Rattle.rules.proofs.Answers.{answers_count_lem}
use Rattle.rules.proofs.RowOrder as R
use Rattle.plant.specs.View.{view_plant, plant_form, kept_plant}
use Rattle.plant.specs.declared.Plant.{Plant}
use Rattle.calls.specs.View.{view_call}
use Rattle.entry.specs.Demand3.{Event, Runs, left, turns_of}
use Rattle.entry.specs.RowOrder.{SweepTakes, RowsInOrder, ComesWhenApplied, StoreStaysElse, applied_in, AppliedOnce, InAppliedOrder, OldestRowsGo}
use Rattle.entry.proofs.Demand3.{from_setup}

pub sweep_takes : SweepTakes
unfolding kept_plant
sweep_takes lent p a words q k r ns e =
    let h = (and_true (plant_form p) (kept (view_plant p)) k).1 in
    subst (Counts C.Sweep (view_plant p) ns) (sym r.leaves) (answers_count_lem C.Sweep lent (view_plant p) ns h (sym r.answers ∙ e))

pub rows_in_order_lem : RowsInOrder
rows_in_order_lem c lent p a words q r =
    subst (λ (z : M.Plant). StandInOrder (view_plant p).rows z.rows) (sym r.leaves) (R.rows_in_order_lem (view_call c) lent (view_plant p))

pub comes_when_applied_lem : ComesWhenApplied
unfolding kept_plant
comes_when_applied_lem c lent p a words q k r n h =
    let was = (and_true (plant_form p) (kept (view_plant p)) k).1 in
    subst (Carries n (view_plant p)) (sym r.leaves)
    (R.comes_when_applied_lem (view_call c) lent (view_plant p) n was (subst (λ (z : M.Plant). has n (came (view_plant p).rows z.rows) ≡ true) r.leaves h))

pub store_stays_else_lem : StoreStaysElse
store_stays_else_lem c lent p a words q r b h =
    ap (λ (z : M.Plant). z.store) r.leaves
    ∙ R.store_stays_else_lem (view_call c) lent (view_plant p) b (subst (λ (z : M.Plant). came (view_plant p).rows z.rows ≡ []) r.leaves h)

-- the sessions applied are those of the turns
same_order : (p : Plant) (es : List Event) → kept_plant p ≡ true → Runs p es → applied_from (turns_of es) (view_plant p) ≡ applied_in p es
same_order p [] k rs = refl
same_order p (e ∷ es) k rs = let r = rs.0 k in rw (sym r.leaves, same_order e.plant es r.keeps rs.1) refl

from_empty : (p : Plant) (es : List Event) → view_plant p ≡ M.setup → kept_plant p ≡ true → Runs p es → applied_order (turns_of es) ≡ applied_in p es
unfolding initial
from_empty p es start k rs = ap (applied_from (turns_of es)) (sym start) ∙ same_order p es k rs

pub applied_once_lem : AppliedOnce
applied_once_lem p start k es rs = ap is_once (sym (from_empty p es start k rs)) ∙ R.applied_once_lem (turns_of es)

pub in_applied_order_lem : InAppliedOrder
in_applied_order_lem p start k es rs =
    subst (λ (w : World). InOrder w.plant.rows (applied_in p es)) (from_setup p es start k rs).ends
    (subst (InOrder (left_by (turns_of es)).rows) (from_empty p es start k rs) (R.in_applied_order_lem (turns_of es)))

pub oldest_rows_go_lem : OldestRowsGo
oldest_rows_go_lem p start k es rs lent a words q r ns e =
    subst (λ (z : M.Plant). TakesOldest (applied_in p es) (view_plant (left p es)) ns z.rows) (sym r.leaves)
    (R.sweep_takes_oldest (applied_in p es) lent (view_plant (left p es)) ns (in_applied_order_lem p start k es rs) (sym r.answers ∙ e))
