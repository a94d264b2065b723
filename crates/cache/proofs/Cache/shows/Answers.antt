-- `Cache::shows` meets its contract.
use borrow.Author.Rules.{rules}
use borrow.Author.Tests.{tests}
use Rattle.rules.specs.Reading.{shows_it}
use Rattle.keys.specs.View.{view_place, view_keys}
use Rattle.lists.proofs.Iterators.{shown_any, shown_used}
use Rattle.cache.specs.cached.View.{view_cached}
use Rattle.cache.specs.View.{view_cache}
use Rattle.cache.proofs.Cache.shows.Goals as goal

pub returns : goal.returns
unfolding view_cache view_cached shows_it
returns c = shown_any (shows_it (view_keys c.args.keys) (view_place c.args.q)) c.any.ensures.ran (shown_used _ _ (search rules) c.used-used.ensures) (λ x b f k. search (rules, tests))
