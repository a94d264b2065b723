-- `Cache::field` meets its contract.
use borrow.Author.Rules.{rules}
use Rattle.lists.proofs.Iterators.{look_used, look_hit, look_next, look_end, used_form}
use Rattle.cache.specs.cached.Form.{cached_form, is_blank_cached}
use Rattle.cache.specs.View.{view_cache}
use Rattle.cache.specs.Form.{cache_form}
use Rattle.cache.proofs.CacheLaws.{shows_is, field_of}
use Rattle.cache.proofs.Cache.field.Goals as goal

pub loop-c-init : goal.loop-c-init
unfolding view_cache
loop-c-init c = look_used _ _ c.used-c-items.ensures

pub returns-then-has-clause-shows : goal.returns-then-has-clause-shows
returns-then-has-clause-shows c =
    look_hit c.loop-c.invariant _ (search rules) (shows_is _ _ _ c.key-key.ensures.shows _ c.has.ensures)
    c.if-has.true (field_of _ _ _ c.key-key.ensures.shows _ c.field.ensures.shows)

pub returns-then-has-clause-form : goal.returns-then-has-clause-form
unfolding cache_form
returns-then-has-clause-form c = λ f. c.field.ensures.form (used_form 16 cached_form is_blank_cached _ _ _ _ c.used-c-items.ensures (search rules) f)

pub loop-c-preserved : goal.loop-c-preserved
loop-c-preserved c = look_next c.loop-c.invariant _ (search rules) (shows_is _ _ _ c.key-key.ensures.shows _ c.has.ensures) c.if-has.false

pub returns-clause-shows : goal.returns-clause-shows
returns-clause-shows c = search (look_end, rules)
