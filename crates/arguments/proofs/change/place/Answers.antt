-- `place` meets its contract.
use Rattle.std.proofs.Common.{rules}
use Rattle.keys.specs.View.{view_place}
use Rattle.arguments.proofs.change.place.Goals as goal

pub returns-clause-shows : goal.returns-clause-shows
unfolding view_place
returns-clause-shows c = search rules
