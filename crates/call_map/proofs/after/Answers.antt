-- `after` meets its contract.
use Rattle.std.proofs.Common.{rules}
use Rattle.arguments.proofs.Numbers.{or_number}
use Rattle.call_map.proofs.Laws.{left_alone, with_key, with_key_form}
use Rattle.call_map.proofs.after.Goals as goal

pub returns-in-Some-clause-shows : goal.returns-in-Some-clause-shows
returns-in-Some-clause-shows c = search (with_key c.of.result, or_number, rules)

pub returns-in-Some-clause-form : goal.returns-in-Some-clause-form
returns-in-Some-clause-form c = search (with_key_form, rules)

pub returns-in-None-clause-shows : goal.returns-in-None-clause-shows
returns-in-None-clause-shows c = search (left_alone c.of.result, rules)
