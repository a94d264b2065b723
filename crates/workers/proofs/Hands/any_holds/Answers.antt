-- `Hands::any_holds` meets its contract.
use Rattle.std.proofs.Common.{rules, tests, refl, sym, ◌∙◌}
use Rattle.lists.proofs.Loops.{length_mapped}
use Rattle.lists.proofs.Iterators.{shown, shown_any}
use Rattle.workers.proofs.HandLaws.{any_hand_lem}
use Rattle.workers.proofs.Hands.any_holds.Goals as goal

pub returns : goal.returns
returns c = shown_any _ c.any.ensures.ran (shown c.iter.ensures.rest refl) (λ x b f k. search (rules, tests)) ∙ sym (any_hand_lem _ (search length_mapped) _)
