-- `made` meets its contract.
use Rattle.std.proofs.Common.{rules}
use Rattle.line_parse.proofs.CallLaws.{get_nth}
use Rattle.line_parse.proofs.made.Goals as goal

pub returns-in-2 : goal.returns-in-2
returns-in-2 c = rw c.in-2.is (search (get_nth, rules))

pub returns-in-5 : goal.returns-in-5
returns-in-5 c = rw c.in-5.is (search (get_nth, rules))
