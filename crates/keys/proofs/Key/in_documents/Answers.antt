-- `Key::in_documents` meets its contract.
use Rattle.std.proofs.Common.{rules, tests}
use Rattle.rules.specs.Effects.{in_documents}
use Rattle.lists.proofs.Iterators.{shown, shown_any}
use Rattle.keys.specs.View.{view_place}
use Rattle.keys.proofs.Key.in_documents.Goals as goal

pub returns : goal.returns
unfolding view_place in_documents
returns c = shown_any _ c.any.ensures.ran (shown c.iter.ensures.rest c.shown.ensures) (λ x b f k. search (rules, tests))
