-- `numbers_of` meets its contract.
use Rattle.std.proofs.Common.{rules}
use Rattle.line_parse.proofs.NumberLaws.{collect_wrong, collect_start, collect_broken, collect_next, collect_end}
use Rattle.line_parse.proofs.numbers_of.Goals as goal

pub returns-then-line-count : goal.returns-then-line-count
returns-then-line-count c = search (collect_wrong, c.if-line-count.true, rules)

pub loop-i-init : goal.loop-i-init
loop-i-init c = search (collect_start, rules)

pub returns-in_err-numbers : goal.returns-in_err-numbers
returns-in_err-numbers c = search (collect_broken, rules)

pub loop-i-preserved : goal.loop-i-preserved
loop-i-preserved c = search (collect_next, rules)

pub returns : goal.returns
returns c = search (collect_end, rules)
