-- `Buffer::oldest` meets its contract.
use borrow.Author.Rules.{rules}
use Rattle.buffer.proofs.BufferLaws.{oldest_is}
use Rattle.buffer.proofs.Buffer.oldest.Goals as goal

pub returns : goal.returns
returns c = oldest_is _ c.used-batches.ensures c.first.result _ c.first.ensures.value c.map_or.ensures (λ b p. search rules)
