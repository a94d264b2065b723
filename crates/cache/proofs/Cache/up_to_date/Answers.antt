-- `Cache::up_to_date` meets its contract.
use borrow.Author.Rules.{rules}
use Rattle.lists.proofs.Loops.{length_mapped}
use Rattle.cache.proofs.CacheLaws.{date_start, date_next, date_end}
use Rattle.cache.proofs.Cache.up_to_date.Goals as goal

pub loop-i-init : goal.loop-i-init
loop-i-init c = search (date_start, length_mapped, rules)

pub loop-i-preserved : goal.loop-i-preserved
loop-i-preserved c = date_next c.loop-i.invariant _ _ (search rules) c.up_to_date.ensures.shows c.up_to_date.ensures.form

pub returns-clause-shows : goal.returns-clause-shows
returns-clause-shows c = date_end c.loop-i.invariant (search rules)

pub returns-clause-form : goal.returns-clause-form
returns-clause-form c = c.loop-i.invariant.form
