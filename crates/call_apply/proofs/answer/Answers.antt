-- `answer` meets its contract.
use Rattle.std.proofs.Common.{rules, refl}
use Rattle.arguments.proofs.Numbers.{none_number, some_below, some_number, some_lt}
use Rattle.answers.proofs.Passing.{passed_on, passed_or}
use Rattle.call_apply.proofs.Laws.{no_worker, no_fate, not_waiting, away, sent}
use Rattle.call_apply.proofs.answer.Goals as goal

pub returns-in_err-w-clause-answers : goal.returns-in_err-w-clause-answers
returns-in_err-w-clause-answers c = search (passed_or, no_worker, none_number, refl, rules)

pub returns-in_err-fate-clause-answers : goal.returns-in_err-fate-clause-answers
returns-in_err-fate-clause-answers c = search (passed_on, no_fate, some_below, c.in_err-fate.ensures, rules)

pub returns-then-not-waits-clause-answers : goal.returns-then-not-waits-clause-answers
returns-then-not-waits-clause-answers c = search (not_waiting, some_number, some_lt, c.in_ok-fate.ensures, rules)

pub returns-then-not-p-clause-answers : goal.returns-then-not-p-clause-answers
returns-then-not-p-clause-answers c = search (away, some_number, some_lt, c.in_ok-fate.ensures, rules)

pub returns-clause-answers : goal.returns-clause-answers
returns-clause-answers c = search (sent, some_number, some_lt, c.in_ok-fate.ensures, rules)
