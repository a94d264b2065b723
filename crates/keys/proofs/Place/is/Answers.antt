-- `Place::is` meets its contract.
use Rattle.std.proofs.Common.{rules}
use Rattle.keys.specs.View.{view_place}
use Rattle.keys.proofs.Place.is.Goals as goal

pub returns : goal.returns
unfolding view_place
returns c = search rules
