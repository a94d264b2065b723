-- `after` meets its contract.
use Rattle.arguments.proofs.Numbers.{or_number}
use Rattle.call_take.proofs.Laws.{in_hand_lem, in_hand_form}
use borrow.Author.Rules.{rules}
use Rattle.call_take.proofs.after.Goals as goal

pub returns-clause-shows : goal.returns-clause-shows
returns-clause-shows c = search (in_hand_lem, or_number, rules)

pub returns-clause-form : goal.returns-clause-form
returns-clause-form c = search (in_hand_form, or_number, rules)
