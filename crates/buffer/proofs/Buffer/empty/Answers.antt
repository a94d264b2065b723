-- `Buffer::empty` meets its contract.
use mathlib.Core.Path.{refl}
use Rattle.lists.specs.Table.{counted}
use Rattle.buffer.specs.View.{view_buffer}
use Rattle.buffer.proofs.BufferLaws.{empty_form}
use Rattle.buffer.proofs.Buffer.empty.Goals as goal

pub returns-clause-shows : goal.returns-clause-shows
unfolding view_buffer counted
returns-clause-shows c = refl

pub returns-clause-form : goal.returns-clause-form
unfolding view_buffer counted
returns-clause-form c = empty_form _ c.empty.ensures
