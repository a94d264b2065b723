-- `Places::key` meets its contract.
use Rattle.std.proofs.Common.{rules}
use Rattle.lists.specs.Table.{counted}
use Rattle.keys.specs.View.{view_key}
use Rattle.arguments.specs.places.View.{view_places, key_of}
use Rattle.arguments.proofs.places.PlacesLaws.{key_formed}
use Rattle.arguments.proofs.places.Places.key.Goals as goal

pub returns-then-n-gt-LIMIT-clause-shows : goal.returns-then-n-gt-LIMIT-clause-shows
unfolding view_places view_key counted key_of
returns-then-n-gt-LIMIT-clause-shows c = search rules

pub returns-clause-shows : goal.returns-clause-shows
unfolding view_places view_key counted key_of
returns-clause-shows c = search rules

pub returns-clause-form : goal.returns-clause-form
unfolding view_places
returns-clause-form c = search (key_formed, rules)
