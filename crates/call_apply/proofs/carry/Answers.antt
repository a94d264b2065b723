-- `carry` meets its contract.
use Rattle.std.proofs.Common.{rules}
use Rattle.call_apply.proofs.Laws.{row_there_lem, no_room_lem, both_there, both_form}
use Rattle.call_apply.proofs.carry.Goals as goal
use Rattle.call_apply.proofs.carry.Goals.{then-full-via-then-full, then-full-via-else-full+then-has}

pub returns-then-full-clause-shows : goal.returns-then-full-clause-shows
returns-then-full-clause-shows c = elim c.then-full.branch [
  | then-full-via-then-full w ↦ search (no_room_lem, rules)
  | then-full-via-else-full+then-has w ↦ search (row_there_lem, rules)
]

pub returns-clause-shows : goal.returns-clause-shows
returns-clause-shows c = search (both_there, rules)

pub returns-clause-form : goal.returns-clause-form
returns-clause-form c = search (both_there, both_form, rules)
