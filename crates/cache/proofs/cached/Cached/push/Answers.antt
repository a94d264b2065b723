-- `Cached::push` meets its contract.
use borrow.Author.Rules.{rules}
use Rattle.lists.proofs.Loops.{length_mapped}
use Rattle.lists.proofs.Iterators.{push_shows, push_form}
use Rattle.field.specs.View.{view_field}
use Rattle.cache.specs.cached.View.{view_cached, with_field}
use Rattle.cache.specs.cached.Form.{cached_form}
use Rattle.cache.proofs.cached.Cached.push.Goals as goal

pub returns-clause-shows : goal.returns-clause-shows
unfolding view_cached with_field
returns-clause-shows c = λ i. record { key = c.args.self.key; fields = push_shows 4 c.args.f (search length_mapped) c.push.ensures.item c.push.ensures.one_more c.push.ensures.full c.push.ensures.no_more view_field i }

pub returns-clause-form : goal.returns-clause-form
unfolding cached_form
returns-clause-form c = search (push_form, length_mapped, rules)
