-- `met` meets its contract.
use Rattle.std.proofs.Common.{rules}
use Rattle.arguments.proofs.change.Meeting.{none_met, some_met}
use Rattle.arguments.proofs.change.met.Goals as goal

pub returns-in_err-changed : goal.returns-in_err-changed
returns-in_err-changed c = some_met c.args.c c.args.f (search rules) c.in_err-changed.field-0.0 c.in_err-changed.ensures.shows c.from_residual.result c.from_residual.ensures.1

pub returns : goal.returns
returns c = search (none_met, rules)
