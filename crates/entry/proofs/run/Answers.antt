-- `run` meets its contract.
use mathlib.Core.Path.{◌≡◌, refl, ◌∙◌}
use mathlib.Core.List.{List, [], ◌∷◌}
use Rattle.rules.specs.Lists.{pushed}
use Rattle.calls.specs.View.{list_limit}
use Rattle.calls.specs.declared.Call.{Call}
use Rattle.entry.proofs.RunAll.{ran_one, promised}
use borrow.Author.Rules.{rules}
use Rattle.entry.proofs.run.Goals as goal

first : (l : List Call) (c : Call) → l ≡ [] → pushed list_limit l c ≡ c ∷ []
unfolding pushed
first l c e = rw e refl

pub returns : goal.returns
returns c =
    let one = c.push.ensures ∙ first _ c.args.c c.none-none.ensures.shows in
    let r = c.run_all-all.result in
    let x = promised c.args.c c.args.words.now c.args.p _ _ r.plant (search (c.run_all-all, rules)) (ran_one _ c.args.p _ _ one r.count r.told _ _ r.plant c.run_all-all.ensures.runs _) in
    record { runs = x.0; own = x.1.0; form = x.1.1.0; refused = x.1.1.1.0; memory = x.1.1.1.1 }
