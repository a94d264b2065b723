-- `after` meets its contract.
use Rattle.std.proofs.Common.{rules}
use Rattle.arguments.proofs.Numbers.{or_number}
use Rattle.call_apply.proofs.Laws.{not_sent, reply_lost, reply_heard, reply_form}
use Rattle.call_apply.proofs.after.Goals as goal

pub returns-in-Arrives-clause-shows : goal.returns-in-Arrives-clause-shows
returns-in-Arrives-clause-shows c = search (reply_heard, or_number, rules)

pub returns-in-Arrives-clause-form : goal.returns-in-Arrives-clause-form
returns-in-Arrives-clause-form c = search (reply_form, or_number, rules)

pub returns-in_default-fate-clause-shows : goal.returns-in_default-fate-clause-shows
returns-in_default-fate-clause-shows c = search (reply_lost, or_number, rules)

pub returns-in-Unreached-clause-shows : goal.returns-in-Unreached-clause-shows
returns-in-Unreached-clause-shows c = search (not_sent, rules)
