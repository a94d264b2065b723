-- `after` meets its contract.
use Rattle.std.proofs.Common.{rules}
use Rattle.arguments.proofs.Numbers.{or_number}
use Rattle.call_delete.proofs.Laws.{unbuffered, unbuffered_form}
use Rattle.call_delete.proofs.after.Goals as goal

pub returns-clause-shows : goal.returns-clause-shows
returns-clause-shows c = search (unbuffered, or_number, rules)

pub returns-clause-form : goal.returns-clause-form
returns-clause-form c = search (unbuffered_form, or_number, rules)
