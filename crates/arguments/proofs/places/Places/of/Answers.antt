-- `Places::of` meets its contract.
use Rattle.std.proofs.Common.{rules}
use Rattle.arguments.specs.places.View.{view_places}
use Rattle.arguments.proofs.places.Places.of.Goals as goal

pub returns-clause-shows : goal.returns-clause-shows
unfolding view_places
returns-clause-shows c = search rules
