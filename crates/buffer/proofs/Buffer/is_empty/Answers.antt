-- `Buffer::is_empty` meets its contract.
use borrow.Author.Rules.{rules}
use Rattle.lists.proofs.Views.{counted_empty}
use Rattle.buffer.specs.View.{view_buffer}
use Rattle.buffer.proofs.Buffer.is_empty.Goals as goal

pub returns : goal.returns
unfolding view_buffer
returns c = search (counted_empty, rules)
