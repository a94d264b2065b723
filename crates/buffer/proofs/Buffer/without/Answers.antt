-- `Buffer::without` meets its contract.
use borrow.Author.Rules.{rules}
use borrow.Author.Tests.{tests}
use mathlib.Core.Path.{refl}
use mathlib.Core.Bool.{not}
use lib.Dec.{eqb}
use Rattle.lists.proofs.Loops.{length_mapped}
use Rattle.lists.proofs.Kept.{kept_shows, kept_form}
use Rattle.buffer.specs.batch.View.{view_batch}
use Rattle.buffer.specs.batch.Form.{batch_form, is_unused}
use Rattle.buffer.specs.View.{view_buffer}
use Rattle.buffer.specs.Form.{buffer_form}
use Rattle.buffer.specs.declared.batch.Batch.{Batch}
use Rattle.buffer.proofs.Buffer.without.Goals as goal

pub returns-clause-shows : goal.returns-clause-shows
unfolding view_buffer view_batch
returns-clause-shows c = kept_shows _ _ _ _ (λ (b : Batch). not (eqb c.args.n b.number)) (c.keep.ensures.kept _ (λ x b k. search (rules, tests))) view_batch (λ b. not (eqb c.args.n b.number)) (λ x. refl)

pub returns-clause-form : goal.returns-clause-form
unfolding buffer_form
returns-clause-form c =
    kept_form _ _ _ _ (λ (b : Batch). not (eqb c.args.n b.number)) (c.keep.ensures.kept _ (λ x b k. search (rules, tests))) 32 batch_form is_unused _ (search (length_mapped, rules)) c.keep.auto.items c.keep.ensures.within c.keep.ensures.rest c.empty-blank.ensures
