-- `Key::is_empty` meets its contract.
use borrow.Author.Rules.{rules}
use Rattle.lists.proofs.Views.{counted_empty}
use Rattle.keys.specs.View.{view_key}
use Rattle.keys.proofs.Key.is_empty.Goals as goal

pub returns : goal.returns
unfolding view_key
returns c = search (counted_empty, rules)
