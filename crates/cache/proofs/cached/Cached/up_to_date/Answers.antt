-- `Cached::up_to_date` meets its contract.
use Rattle.lists.proofs.Loops.{length_mapped}
use Rattle.cache.proofs.cached.CachedLaws.{dated_is, untouched_is}
use borrow.Author.Rules.{rules}
use Rattle.cache.proofs.cached.Cached.up_to_date.Goals as goal

pub returns-then-not-touches_any-clause-shows : goal.returns-then-not-touches_any-clause-shows
returns-then-not-touches_any-clause-shows c = dated_is _ _ _ _ c.key-key.ensures.shows (untouched_is _ _ _ (search (length_mapped, rules)) (search (length_mapped, rules)) (search rules) c.touches_any.ensures c.if-not-touches_any.true)

pub returns-then-not-touches_any-clause-form : goal.returns-then-not-touches_any-clause-form
returns-then-not-touches_any-clause-form c = λ f. f

pub returns-clause-shows : goal.returns-clause-shows
returns-clause-shows c = dated_is _ _ _ _ c.key-key.ensures.shows c.after.ensures.shows

pub returns-clause-form : goal.returns-clause-form
returns-clause-form c = c.after.ensures.form
