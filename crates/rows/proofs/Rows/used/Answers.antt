-- `Rows::used` meets its contract.
use Rattle.std.proofs.Common.{◌∙◌, sym}
use Rattle.std.proofs.lemmas.List.{map-id}
use Rattle.lists.proofs.Iterators.{counted_taken}
use Rattle.rows.specs.View.{view_rows}
use Rattle.rows.proofs.Rows.used.Goals as goal

pub returns : goal.returns
unfolding view_rows
returns c = c.used.ensures ∙ sym (counted_taken _ _ _ ∙ map-id _)
