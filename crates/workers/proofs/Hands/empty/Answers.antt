-- `Hands::empty` meets its contract.
use Rattle.workers.proofs.HandLaws.{hands_empty, hands_form_lem}
use Rattle.workers.proofs.Hands.empty.Goals as goal

pub returns-clause-shows : goal.returns-clause-shows
returns-clause-shows c = hands_empty _ c.empty.ensures.shows

pub returns-clause-form : goal.returns-clause-form
returns-clause-form c = hands_form_lem _ c.empty.ensures.form
