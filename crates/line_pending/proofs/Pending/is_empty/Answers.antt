-- `Pending::is_empty` meets its contract.
use borrow.Author.Rules.{rules}
use Rattle.line_pending.proofs.Adding.{none_kept}
use Rattle.line_pending.proofs.Pending.is_empty.Goals as goal

pub returns : goal.returns
returns c = search (none_kept, rules)
