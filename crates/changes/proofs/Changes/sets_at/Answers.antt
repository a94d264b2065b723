-- `Changes::sets_at` meets its contract.
use borrow.Author.Rules.{rules}
use Rattle.keys.specs.View.{view_place}
use Rattle.changes.proofs.ChangeLaws.{sets_there}
use Rattle.changes.specs.View.{view_changes}
use Rattle.changes.proofs.Changes.sets_at.Goals as goal

pub returns : goal.returns
returns c =
    sets_there (view_changes c.args.self) (view_place c.args.q) _ c.shown.ensures c.args.i _ _ (λ x p. search rules) c.get.result c.get.ensures.lookup.3 c.is_some_and.ensures
