-- `Buffer::changes_of` meets its contract.
use borrow.Author.Rules.{rules}
use borrow.Author.Tests.{tests}
use mathlib.Core.Path.{refl}
use mathlib.Core.List.{[]}
use lib.Dec.{eqb}
use Rattle.rules.specs.Tables as M
use Rattle.lists.proofs.Iterators.{shown_used, shown_some, shown_none, find_form}
use Rattle.buffer.specs.batch.View.{view_batch}
use Rattle.buffer.specs.batch.Form.{batch_form}
use Rattle.buffer.specs.View.{view_buffer}
use Rattle.buffer.specs.Form.{buffer_form}
use Rattle.buffer.specs.declared.batch.Batch.{Batch}
use Rattle.buffer.proofs.Buffer.changes_of.Goals as goal

pub returns-in-Some-clause-shows : goal.returns-in-Some-clause-shows
unfolding view_buffer view_batch
returns-in-Some-clause-shows c = shown_some _ (λ (b : M.Batch). eqb c.args.n b.number) (λ b. b.changes) [] _ c.find.ensures.ran c.in-Some.is (shown_used _ _ c.iter.ensures.rest c.used-batches.ensures) refl (λ x b f k. search (rules, tests))

pub returns-in-Some-clause-form : goal.returns-in-Some-clause-form
unfolding buffer_form batch_form
returns-in-Some-clause-form c = find_form (λ (b : Batch). eqb c.args.n b.number) _ _ _ _ _ _ _ c.find.ensures.ran c.in-Some.is c.iter.ensures.rest c.used-batches.ensures (λ x b f k. search (rules, tests))

pub returns-in-None-clause-shows : goal.returns-in-None-clause-shows
unfolding view_buffer view_batch
returns-in-None-clause-shows c = shown_none _ (λ (b : M.Batch). eqb c.args.n b.number) (λ b. b.changes) [] c.find.ensures.ran c.in-None.is (shown_used _ _ c.iter.ensures.rest c.used-batches.ensures) c.empty.ensures.shows (λ x b f k. search (rules, tests))
