-- `buffered` meets its contract.
use Rattle.call_commit.proofs.Laws.{none_buffered, one_buffered}
use Rattle.buffer.specs.batch.Form.{batch_form}
use borrow.Author.Rules.{rules}
use Rattle.call_commit.proofs.buffered.Goals as goal

pub returns-then-is_empty-clause-shows : goal.returns-then-is_empty-clause-shows
returns-then-is_empty-clause-shows c = search (none_buffered, rules)

pub returns-clause-shows : goal.returns-clause-shows
returns-clause-shows c = search (one_buffered, rules)

pub returns-clause-form : goal.returns-clause-form
unfolding batch_form
returns-clause-form c = search (c.push.ensures.form, rules)
