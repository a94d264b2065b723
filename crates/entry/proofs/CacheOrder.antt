-- The key cached longest ago gives way, of the code: each claim is the rules', of the turns that the calls are.
use mathlib.Core.Path.{sym, ◌∙◌, ap, subst}
use mathlib.Core.List.{[]}
use Rattle.rules.specs.Lists.{InOrder}
use Rattle.rules.specs.Values.{nat_of}
use Rattle.rules.specs.Tables as M
use Rattle.rules.specs.Kept.{kept}
use Rattle.rules.specs.History.{World, left_by}
use Rattle.rules.specs.CacheOrder.{by_reads, GivesWay}
use Rattle.rules.proofs.Laws.{and_true}
use Rattle.rules.proofs.KeptTest.{kept_iff}
use Rattle.rules.proofs.CacheOrder as R
use Rattle.plant.specs.View.{view_plant, plant_form, kept_plant}
use Rattle.entry.specs.Demand3.{left, turns_of, exchanges_of}
use Rattle.entry.specs.CacheOrder.{InReadOrder, OldestGivesWay, CommitCachesNone}
use Rattle.entry.proofs.Demand3.{from_setup}

pub in_read_order_lem : InReadOrder
in_read_order_lem p start k es rs =
    let x = from_setup p es start k rs in
    subst (λ (w : World). InOrder (M.keys_of w.plant.cache) (by_reads (exchanges_of es) [])) x.ends
    (subst (λ l. InOrder (M.keys_of (left_by (turns_of es)).cache) (by_reads l [])) x.exchanges (R.in_read_order_lem (turns_of es)))

pub oldest_gives_way_lem : OldestGivesWay
unfolding kept_plant
oldest_gives_way_lem p start k es rs s ky lent a words q r e full =
    let was : M.Plant = view_plant (left p es) in
    let h = (and_true (plant_form (left p es)) (kept was) (from_setup p es start k rs).keeps).1 in
    let caches = R.read_caches_last s ky lent was ((kept_iff was).0 h).cache.few (sym r.answers ∙ e) in
    subst (λ (z : M.Plant). GivesWay (nat_of ky) (by_reads (exchanges_of es) []) (M.keys_of was.cache) (M.keys_of z.cache)) (sym r.leaves)
    (R.gives_way (by_reads (exchanges_of es) []) caches full (in_read_order_lem p start k es rs))

pub commit_caches_none_lem : CommitCachesNone
commit_caches_none_lem s lent p a words q r = ap (λ (z : M.Plant). M.keys_of z.cache) r.leaves ∙ R.commit_caches_none_lem s lent (view_plant p)
