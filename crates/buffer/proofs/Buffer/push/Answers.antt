-- `Buffer::push` meets its contract.
use borrow.Author.Rules.{rules}
use Rattle.lists.proofs.Loops.{length_mapped}
use Rattle.lists.proofs.Iterators.{push_shows, push_form}
use Rattle.buffer.specs.View.{view_buffer}
use Rattle.buffer.specs.Form.{buffer_form}
use Rattle.buffer.proofs.Buffer.push.Goals as goal

pub returns-clause-shows : goal.returns-clause-shows
unfolding view_buffer
returns-clause-shows c = let e = c.push.ensures in push_shows 32 _ (search (length_mapped, rules)) e.item e.one_more e.full e.no_more _

pub returns-clause-form : goal.returns-clause-form
unfolding buffer_form
returns-clause-form c = let e = c.push.ensures in push_form 32 _ (search (length_mapped, rules)) e.item e.one_more e.full e.no_more _ _
