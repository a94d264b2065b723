-- `Buffer::len` meets its contract.
use Rattle.buffer.proofs.BufferLaws.{used_length}
use Rattle.buffer.proofs.Buffer.len.Goals as goal

pub returns : goal.returns
returns c = used_length _ c.used.ensures
