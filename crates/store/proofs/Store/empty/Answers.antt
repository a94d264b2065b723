-- `Store::empty` meets its contract.
use Rattle.store.proofs.StoreLaws.{store_empty, empty_form}
use Rattle.store.proofs.Store.empty.Goals as goal

pub returns-clause-shows : goal.returns-clause-shows
returns-clause-shows c = store_empty _ c.empty.ensures.shows

pub returns-clause-form : goal.returns-clause-form
returns-clause-form c = empty_form _ c.empty.ensures.form
