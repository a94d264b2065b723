-- `parse` meets its contract.
use Rattle.std.proofs.Common.{rules}
use Rattle.line_format.specs.Lines.{said}
use Rattle.line_parse.proofs.CallLaws.{taken_call}
use Rattle.line_parse.proofs.parse.Goals as goal

pub returns-in_err-call : goal.returns-in_err-call
unfolding said
returns-in_err-call c = search rules

pub returns-in_err-count : goal.returns-in_err-count
unfolding said
returns-in_err-count c = search rules

pub returns-in_err-numbers : goal.returns-in_err-numbers
unfolding said
returns-in_err-numbers c = search rules

pub returns : goal.returns
unfolding said
returns c = search (taken_call, rules)
