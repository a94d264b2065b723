-- `answer` meets its contract.
use Rattle.std.proofs.Common.{rules, refl}
use Rattle.arguments.proofs.Numbers.{indexed, none_below, some_below, some_is}
use Rattle.answers.proofs.Passing.{passed_or}
use Rattle.call_advance.proofs.Laws.{out_of_range_lem, clock_ends, tick_told}
use Rattle.call_advance.proofs.answer.Goals as goal

pub returns-in_err-n-clause-answers : goal.returns-in_err-n-clause-answers
returns-in_err-n-clause-answers c = search (passed_or, out_of_range_lem, none_below, indexed, refl, rules)

pub returns-in_err-now-clause-answers : goal.returns-in_err-now-clause-answers
returns-in_err-now-clause-answers c = search (passed_or, clock_ends, some_below, some_is, indexed, refl, rules)

pub returns-clause-answers : goal.returns-clause-answers
returns-clause-answers c = search (tick_told, some_below, some_is, indexed, refl, rules)
