-- `known_away` meets its contract.
use Rattle.sight.proofs.SeenLaws.{known_cached, known_walked}
use Rattle.sight.proofs.known_away.Goals as goal

pub returns-then-shows : goal.returns-then-shows
returns-then-shows c = search known_cached

pub returns : goal.returns
returns c = search known_walked
