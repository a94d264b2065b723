-- `Rows::push` meets its contract.
use Rattle.std.proofs.Common.{rules}
use Rattle.lists.proofs.Iterators.{push_shows, push_form}
use Rattle.rows.specs.View.{view_rows, rows_form}
use Rattle.rows.proofs.Rows.push.Goals as goal

pub returns-clause-shows : goal.returns-clause-shows
unfolding view_rows
returns-clause-shows c = let e = c.push.ensures in push_shows 48 _ (search rules) e.item e.one_more e.full e.no_more _

pub returns-clause-form : goal.returns-clause-form
unfolding rows_form
returns-clause-form c = search (push_form, rules)
