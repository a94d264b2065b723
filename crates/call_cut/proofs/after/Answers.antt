-- `after` meets its contract.
use Rattle.std.proofs.Common.{rules}
use Rattle.arguments.proofs.Numbers.{or_number}
use Rattle.call_cut.proofs.Laws.{emptied, emptied_form}
use Rattle.call_cut.proofs.after.Goals as goal

pub returns-clause-shows : goal.returns-clause-shows
returns-clause-shows c = search (emptied, or_number, rules)

pub returns-clause-form : goal.returns-clause-form
returns-clause-form c = search (emptied_form, or_number, rules)
