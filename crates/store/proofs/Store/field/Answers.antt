-- `Store::field` meets its contract.
use Rattle.lists.proofs.Loops.{length_mapped}
use Rattle.store.proofs.StoreLaws.{field_past, field_at_lem, field_form_lem}
use borrow.Author.Rules.{rules}
use Rattle.store.proofs.Store.field.Goals as goal

pub returns-in_default-clause-shows : goal.returns-in_default-clause-shows
returns-in_default-clause-shows c = field_past _ _ _ c.in_default.ensures.shows c.empty.ensures.shows

pub returns-clause-shows : goal.returns-clause-shows
returns-clause-shows c = field_at_lem _ _ _ c.in-Some.ensures.shows (search (length_mapped, rules)) _

pub returns-clause-form : goal.returns-clause-form
returns-clause-form c = field_form_lem _ _ _ c.in-Some.ensures.shows (search (length_mapped, rules)) _
