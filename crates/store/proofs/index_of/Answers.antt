-- `index_of` meets its contract.
use Rattle.std.proofs.Common.{arith}
use Rattle.std.proofs.lemmas.Grind.{common_steps}
use Rattle.keys.specs.View.{view_place}
use Rattle.store.proofs.index_of.Goals as goal

pub returns-clause-shows : goal.returns-clause-shows
unfolding view_place
returns-clause-shows c = grind (arith, common_steps)
