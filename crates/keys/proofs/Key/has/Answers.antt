-- `Key::has` meets its contract.
use Rattle.lists.proofs.Iterators.{shown_contains}
use Rattle.keys.proofs.KeyLaws.{same_swapped}
use Rattle.keys.proofs.Key.has.Goals as goal

pub returns : goal.returns
returns c = shown_contains _ _ _ _ c.contains.ensures.value c.shown.ensures (λ x. same_swapped x c.args.q)
