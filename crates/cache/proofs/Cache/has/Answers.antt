-- `Cache::has` meets its contract.
use borrow.Author.Rules.{rules}
use borrow.Author.Tests.{tests}
use lib.Dec.{eqb}
use Rattle.lists.proofs.Iterators.{shown_any, shown_used}
use Rattle.cache.specs.cached.View.{view_cached}
use Rattle.cache.specs.View.{view_cache}
use Rattle.cache.proofs.Cache.has.Goals as goal

pub returns : goal.returns
unfolding view_cache view_cached
returns c = shown_any (λ x. eqb c.args.k x.key) c.any.ensures.ran (shown_used _ _ (search rules) c.used-used.ensures) (λ x b f k. search (rules, tests))
