-- `stored` meets its contract.
use Rattle.lists.proofs.Loops.{length_mapped}
use Rattle.store.proofs.StoreLaws.{field_past, field_at_lem, field_form_lem}
use borrow.Author.Rules.{rules}
use Rattle.call_read_shown.proofs.values.stored.Goals as goal

pub returns-in-None-clause-shows : goal.returns-in-None-clause-shows
returns-in-None-clause-shows c = field_past _ _ _ c.in-None.ensures.shows c.empty.ensures.shows

pub returns-in-Some-clause-shows : goal.returns-in-Some-clause-shows
returns-in-Some-clause-shows c = field_at_lem _ _ _ c.in-Some.ensures.shows (search (length_mapped, rules)) _

pub returns-in-Some-clause-form : goal.returns-in-Some-clause-form
returns-in-Some-clause-form c = field_form_lem _ _ _ c.in-Some.ensures.shows (search (length_mapped, rules)) _
