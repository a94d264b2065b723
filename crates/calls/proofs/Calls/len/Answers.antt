-- `Calls::len` meets its contract.
use mathlib.Core.Path.{sym, ◌∙◌}
use borrow.Author.Rules.{rules}
use Rattle.lists.proofs.Views.{counted-length}
use Rattle.calls.specs.View.{view_calls, list_limit}
use Rattle.calls.proofs.Calls.len.Goals as goal

pub returns : goal.returns
unfolding view_calls
returns c = c.min.ensures ∙ sym (counted-length (λ x. x) _ _ list_limit (search rules))
