-- `with_room` meets its contract.
use borrow.Author.Rules.{rules}
use Rattle.call_read_shown.proofs.MarkedLaws.{gives_way, has_room}
use Rattle.call_read_shown.proofs.with_room.Goals as goal

pub returns-then-len-ge-LIMIT-clause-shows : goal.returns-then-len-ge-LIMIT-clause-shows
returns-then-len-ge-LIMIT-clause-shows c = search (gives_way, rules)

pub returns-clause-shows : goal.returns-clause-shows
returns-clause-shows c = search (has_room, rules)
