-- `Changes::len` meets its contract.
use mathlib.Core.Path.{sym, ◌∙◌}
use borrow.Author.Rules.{rules}
use Rattle.lists.proofs.Views.{counted-length}
use Rattle.changes.specs.View.{view_update, view_changes}
use Rattle.changes.proofs.Changes.len.Goals as goal

pub returns-clause-counts : goal.returns-clause-counts
unfolding view_changes
returns-clause-counts c = c.min.ensures ∙ sym (counted-length view_update _ _ 8 (search rules))
