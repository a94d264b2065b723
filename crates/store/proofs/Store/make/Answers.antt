-- `Store::make` meets its contract.
use Rattle.lists.proofs.Loops.{length_mapped}
use Rattle.store.proofs.StoreLaws.{changed_past, changed_at, changed_form}
use borrow.Author.Rules.{rules}
use Rattle.store.proofs.Store.make.Goals as goal

pub returns-in_default-clause-shows : goal.returns-in_default-clause-shows
returns-in_default-clause-shows c = changed_past _ _ c.in_default.ensures.shows

pub returns-in-Some-clause-shows : goal.returns-in-Some-clause-shows
returns-in-Some-clause-shows c = changed_at _ _ _ c.in-Some.ensures.shows (search (length_mapped, rules)) _ _ c.after.ensures.shows

pub returns-in-Some-clause-form : goal.returns-in-Some-clause-form
returns-in-Some-clause-form c = changed_form _ _ _ _ c.in-Some.ensures.within c.after.ensures.form
