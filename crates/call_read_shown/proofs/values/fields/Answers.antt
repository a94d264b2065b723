-- `fields` meets its contract.
use Rattle.lists.proofs.Loops.{length_mapped}
use Rattle.call_read_shown.proofs.values.ValuesLaws.{fill_start, fill_next, fill_end}
use Rattle.call_read_shown.proofs.values.fields.Goals as goal

pub loop-q-init : goal.loop-q-init
loop-q-init g c = fill_start (search length_mapped) c.used-q-items.ensures c.of-t.ensures.shows c.of-t.ensures.form

pub loop-q-preserved : goal.loop-q-preserved
loop-q-preserved g c = fill_next c.loop-q.invariant _ c.loop-q-test.true c.field.ensures c.push-t.ensures.shows c.push-t.ensures.form

pub returns-clause-shows : goal.returns-clause-shows
returns-clause-shows g c = fill_end c.loop-q.invariant c.loop-q-test.false

pub returns-clause-form : goal.returns-clause-form
returns-clause-form g c = c.loop-q.invariant.form
