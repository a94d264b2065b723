-- `Changes::touches_any` meets its contract.
use borrow.Author.Rules.{rules}
use borrow.Author.Tests.{tests}
use Rattle.rules.specs.Changes.{touches}
use Rattle.lists.proofs.Iterators.{shown, shown_any}
use Rattle.changes.specs.View.{view_changes}
use Rattle.changes.proofs.Changes.touches_any.Goals as goal

pub returns : goal.returns
returns c =
    shown_any (touches (view_changes c.args.self)) c.any.ensures.ran (shown c.iter.ensures.rest c.shown.ensures) (λ x b f k. search (rules, tests))
