-- `Places::has_stray` meets its contract.
use Rattle.std.proofs.Common.{rules, tests, not}
use Rattle.rules.specs.Values as S
use Rattle.rules.specs.Conditions.{is_zero}
use Rattle.lists.proofs.Iterators.{shown, shown_any}
use Rattle.arguments.specs.places.View.{view_places}
use Rattle.arguments.proofs.places.PlacesLaws.{all_past}
use Rattle.arguments.proofs.places.Places.has_stray.Goals as goal

pub returns : goal.returns
unfolding view_places
returns c =
    shown_any (λ (q : S.Place). not (is_zero q)) c.any.ensures.ran (shown c.iter.ensures.rest (all_past c.args.from c.args.self.all)) (λ x b f k. search (rules, tests, c.empty-zero.ensures.shows))
