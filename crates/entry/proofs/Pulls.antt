-- A recalled lot leaves the tally whole, of the code: each claim is the rules', of the turns that the calls are.
use mathlib.Core.Path.{sym, ◌∙◌, subst}
use mathlib.Core.List.{List, ◌++◌}
use Rattle.rules.specs.Changes.{becomes, place_of}
use Rattle.rules.specs.Tables as M
use Rattle.rules.specs.Reading.{seen}
use Rattle.rules.specs.Conditions.{own}
use Rattle.rules.specs.History.{whole, World, turns, initial, Exchange}
use Rattle.rules.specs.Claims.{shown_to}
use Rattle.rules.specs.Demand3.{FirstPart}
use Rattle.rules.specs.Pulls.{Pulls, LacksAll, loads_of, bookings}
use Rattle.rules.proofs.Pulls as R
use Rattle.plant.specs.View.{view_plant}
use Rattle.entry.specs.Demand3.{turns_of, exchanges_of}
use Rattle.entry.specs.Pulls.{LoadPulls, ChangePulls, ReadsLack, StoreLacks}
use Rattle.entry.proofs.Demand3.{from_setup}

pub load_pulls_lem : LoadPulls
load_pulls_lem d f v lent p a words q r ns e =
    subst (λ (z : M.Plant). Pulls v ((view_plant p).store (place_of d f)) (becomes (z.store (place_of d f)))) (sym r.leaves)
    (R.load_pulls_lem d f v lent (view_plant p) ns (sym r.answers ∙ e))

pub change_pulls_lem : ChangePulls
change_pulls_lem s d f v lent p a words q r ns e =
    subst (λ (z : M.Plant). Pulls v (seen (view_plant p) (own s (view_plant p)) (place_of d f)) (becomes (seen z (own s z) (place_of d f)))) (sym r.leaves)
    (R.change_pulls_lem s d f v lent (view_plant p) ns (sym r.answers ∙ e))

pub reads_lack_lem : ReadsLack
reads_lack_lem p start k es rs s =
    let x = from_setup p es start k rs in
    let Lack : List Exchange → World → Type 0 = λ l z. LacksAll (bookings l z.history s) (shown_to z.history s) in
    subst (Lack (exchanges_of es)) x.ends (subst (λ l. Lack l (turns (turns_of es) initial)) x.exchanges (R.reads_lack_lem (turns_of es) s))

pub store_lacks_lem : StoreLacks
store_lacks_lem p start k es rs =
    let x = from_setup p es start k rs in
    let Lack : List Exchange → World → Type 0 = λ l z. (part : FirstPart z.history z.plant.store) → LacksAll (loads_of l ++ whole part.done) z.plant.store in
    subst (Lack (exchanges_of es)) x.ends (subst (λ l. Lack l (turns (turns_of es) initial)) x.exchanges (R.store_lacks_lem (turns_of es)))
