-- `value_of` meets its contract.
use Rattle.std.proofs.Common.{rules}
use Rattle.arguments.proofs.change.Reading.{value_is}
use Rattle.arguments.proofs.change.value_of.Goals as goal

pub returns-in_default : goal.returns-in_default
returns-in_default c = search (value_is, rules)
