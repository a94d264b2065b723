-- `Changes::is_empty` meets its contract.
use borrow.Author.Rules.{rules}
use Rattle.lists.proofs.Views.{counted_empty}
use Rattle.changes.specs.View.{view_changes}
use Rattle.changes.proofs.Changes.is_empty.Goals as goal

pub returns : goal.returns
unfolding view_changes
returns c = search (counted_empty, rules)
