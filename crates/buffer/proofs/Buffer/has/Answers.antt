-- `Buffer::has` meets its contract.
use borrow.Author.Rules.{rules}
use borrow.Author.Tests.{tests}
use lib.Dec.{eqb}
use Rattle.rules.specs.Tables as M
use Rattle.lists.proofs.Iterators.{shown_used, shown_any}
use Rattle.buffer.specs.batch.View.{view_batch}
use Rattle.buffer.specs.View.{view_buffer}
use Rattle.buffer.proofs.Buffer.has.Goals as goal

pub returns : goal.returns
unfolding view_buffer view_batch
returns c = shown_any (λ (b : M.Batch). eqb c.args.n b.number) c.any.ensures.ran (shown_used _ _ c.iter.ensures.rest c.used-batches.ensures) (λ x b f k. search (rules, tests))
