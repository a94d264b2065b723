-- `Places::are_within` meets its contract.
use Rattle.std.proofs.Common.{refl, rules}
use Rattle.rules.specs.Values.{in_range}
use Rattle.lists.proofs.Iterators.{shown, shown_all}
use Rattle.arguments.specs.places.View.{view_places}
use Rattle.arguments.proofs.places.Places.are_within.Goals as goal

pub returns : goal.returns
unfolding view_places
returns c = shown_all in_range c.all.ensures.ran (shown c.iter.ensures.rest refl) (λ x b f k. search rules)
