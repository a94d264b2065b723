-- `cached` meets its contract.
use borrow.Author.Rules.{rules}
use Rattle.call_read_shown.proofs.MarkedLaws.{caches_one, caches_none}
use Rattle.call_read_shown.proofs.cached.Goals as goal

pub returns-in-CachedNow-clause-shows : goal.returns-in-CachedNow-clause-shows
returns-in-CachedNow-clause-shows c = search (caches_one, rules)

pub returns-in-CachedNow-clause-form : goal.returns-in-CachedNow-clause-form
returns-in-CachedNow-clause-form c = λ f g. c.push.ensures.form f (c.with_room.ensures.form g)

pub returns-in-FromCache-clause-shows : goal.returns-in-FromCache-clause-shows
returns-in-FromCache-clause-shows c = caches_none _ _ _ c.in-FromCache.is
