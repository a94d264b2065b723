-- `Keys::empty` meets its contract.
use Rattle.keys.proofs.KeyLaws.{keys_empty, keys_form_lem}
use Rattle.keys.proofs.Keys.empty.Goals as goal

pub returns-clause-shows : goal.returns-clause-shows
returns-clause-shows c = keys_empty _ c.empty.ensures.shows

pub returns-clause-form : goal.returns-clause-form
returns-clause-form c = keys_form_lem _ c.empty.ensures.form
