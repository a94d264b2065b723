-- `Calls::push` meets its contract.
use borrow.Author.Rules.{rules}
use Rattle.lists.proofs.Iterators.{push_shows}
use Rattle.calls.specs.View.{view_calls, list_limit}
use Rattle.calls.proofs.Calls.push.Goals as goal

pub returns : goal.returns
unfolding view_calls
returns c = let p = c.push.ensures in push_shows list_limit c.args.c (search rules) p.item p.one_more p.full p.no_more (λ x. x)
