-- `Cached::after` meets its contract.
use borrow.Author.Rules.{rules}
use mathlib.Core.Path.{ap}
use Rattle.rules.specs.Tables as M
use Rattle.lists.proofs.Loops.{length_mapped}
use Rattle.field.specs.View.{field_form}
use Rattle.lists.proofs.Iterators.{place_used, place_next, place_end, used_form}
use Rattle.cache.specs.cached.View.{view_cached}
use Rattle.cache.specs.cached.Form.{cached_form, is_blank_field}
use Rattle.cache.proofs.cached.CachedLaws.{after_is, pushed_key, pushed-fields}
use Rattle.cache.proofs.cached.Cached.after.Goals as goal

pub loop-i-init : goal.loop-i-init
unfolding view_cached
loop-i-init c = record {
  made = place_used _ _ (search length_mapped) c.used-f-items.ensures (ap (λ (x : M.Cached). x.fields) c.of-t.ensures.shows);
  key = ap (λ (x : M.Cached). x.key) c.of-t.ensures.shows;
  form = λ f. c.of-t.ensures.form;
}

pub loop-i-preserved : goal.loop-i-preserved
unfolding cached_form
loop-i-preserved c = record {
  made = place_next c.loop-i.invariant.made _ (search rules) (pushed-fields _ _ _ _ _ _ _ _ c.push-t.ensures.shows c.run.ensures.shows c.place-q.ensures);
  key = pushed_key _ _ _ c.push-t.ensures.shows c.loop-i.invariant.key;
  form = λ f. c.push-t.ensures.form (c.run.ensures.form (used_form 4 field_form is_blank_field _ _ _ _ c.used-f-items.ensures (search rules) f)) (c.loop-i.invariant.form f);
}

pub returns-clause-shows : goal.returns-clause-shows
returns-clause-shows c = after_is _ _ _ _ c.loop-i.invariant.key (place_end c.loop-i.invariant.made (search rules))
