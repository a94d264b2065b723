-- `Cache::without` meets its contract.
use borrow.Author.Rules.{rules}
use borrow.Author.Tests.{tests}
use mathlib.Core.Path.{refl}
use Rattle.rules.specs.Effects.{stays}
use Rattle.docset.specs.Sets.{docs}
use Rattle.keys.specs.View.{view_keys}
use Rattle.lists.proofs.Loops.{length_mapped}
use Rattle.lists.proofs.Kept.{kept_shows, kept_form}
use Rattle.cache.specs.cached.View.{view_cached}
use Rattle.cache.specs.cached.Form.{cached_form, is_blank_cached}
use Rattle.cache.proofs.cached.CachedLaws.{blank_cached}
use Rattle.cache.specs.View.{view_cache}
use Rattle.cache.specs.Form.{cache_form}
use Rattle.cache.proofs.CacheLaws.{none_lost}
use Rattle.cache.proofs.Cache.without.Goals as goal

pub returns-then-set-ne0-clause-shows : goal.returns-then-set-ne0-clause-shows
unfolding view_cache view_cached stays
returns-then-set-ne0-clause-shows c =
    kept_shows _ _ _ _ (λ x. stays (docs c.args.set) (view_keys c.args.keys) (view_cached x)) (c.keep.ensures.kept _ (λ x b k. search (rules, tests))) view_cached _ (λ x. refl)

pub returns-then-set-ne0-clause-form : goal.returns-then-set-ne0-clause-form
unfolding cache_form view_cached stays
returns-then-set-ne0-clause-form c =
    let k = c.keep.ensures in
    kept_form _ _ _ _ (λ x. stays (docs c.args.set) (view_keys c.args.keys) (view_cached x)) (k.kept _ (λ x b t. search (rules, tests))) 16 cached_form is_blank_cached _ (search length_mapped) c.keep.auto.items k.within k.rest (blank_cached _ c.of.ensures.shows c.of.ensures.form)

pub returns-else-set-ne0-clause-shows : goal.returns-else-set-ne0-clause-shows
returns-else-set-ne0-clause-shows c = search (none_lost, rules)
