-- `Changes::push` meets its contract.
use borrow.Author.Rules.{rules}
use Rattle.lists.proofs.Iterators.{push_shows, push_form}
use Rattle.changes.specs.View.{view_update, view_changes}
use Rattle.changes.specs.Form.{is_used, is_unused, changes_form}
use Rattle.changes.proofs.Changes.push.Goals as goal

pub returns-clause-shows : goal.returns-clause-shows
unfolding view_changes
returns-clause-shows c = let p = c.push.ensures in push_shows 8 c.args.c (search rules) p.item p.one_more p.full p.no_more view_update

pub returns-clause-form : goal.returns-clause-form
unfolding changes_form
returns-clause-form c = let p = c.push.ensures in push_form 8 c.args.c (search rules) p.item p.one_more p.full p.no_more is_used is_unused
