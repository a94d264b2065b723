-- `Hands::hand` meets its contract.
use Rattle.lists.proofs.Loops.{length_mapped}
use Rattle.workers.proofs.HandLaws.{hand_past, hand_at, hand_form_lem}
use Rattle.workers.proofs.Hands.hand.Goals as goal

pub returns-in-Some-clause-shows : goal.returns-in-Some-clause-shows
returns-in-Some-clause-shows c = hand_at _ (search length_mapped) _ _ c.in-Some.ensures.lookup.3.0 c.in-Some.ensures.lookup.1

pub returns-in-Some-clause-form : goal.returns-in-Some-clause-form
returns-in-Some-clause-form c = hand_form_lem _ (search length_mapped) _ _ c.in-Some.ensures.lookup.3.0 c.in-Some.ensures.lookup.1

pub returns-in-None-clause-shows : goal.returns-in-None-clause-shows
returns-in-None-clause-shows c = hand_past _ (search length_mapped) _ _ c.in-None.ensures.lookup.3 c.empty.ensures.shows
