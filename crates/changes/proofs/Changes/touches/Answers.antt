-- `Changes::touches` meets its contract.
use borrow.Author.Rules.{rules}
use borrow.Author.Tests.{tests}
use Rattle.rules.specs.Values.{same_place}
use Rattle.rules.specs.Changes as C
use Rattle.keys.specs.View.{view_place}
use Rattle.lists.proofs.Iterators.{shown, shown_any}
use Rattle.changes.proofs.Changes.touches.Goals as goal

pub returns : goal.returns
returns c =
    shown_any (λ (u : C.Update). same_place (view_place c.args.q) u.at) c.any.ensures.ran (shown c.iter.ensures.rest c.shown.ensures) (λ x b f k. search (rules, tests))
