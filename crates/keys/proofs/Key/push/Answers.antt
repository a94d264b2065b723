-- `Key::push` meets its contract.
use Rattle.std.proofs.Common.{rules}
use Rattle.lists.proofs.Loops.{length_mapped}
use Rattle.lists.proofs.Iterators.{push_shows, push_form}
use Rattle.keys.specs.View.{view_key}
use Rattle.keys.specs.Form.{key_form}
use Rattle.keys.proofs.Key.push.Goals as goal

pub returns-clause-shows : goal.returns-clause-shows
unfolding view_key
returns-clause-shows c = search (push_shows, length_mapped, rules)

pub returns-clause-form : goal.returns-clause-form
unfolding key_form
returns-clause-form c = search (push_form, length_mapped, rules)
