-- `answer` meets its contract.
use Rattle.std.proofs.Common.{rules, refl}
use Rattle.arguments.proofs.Numbers.{none_number, some_number, some_lt}
use Rattle.answers.proofs.Passing.{passed_or}
use Rattle.call_delete.proofs.Laws.{out_of_range_lem, no_reply, buffered_told}
use Rattle.call_delete.proofs.answer.Goals as goal

pub returns-in_err-w-clause-answers : goal.returns-in_err-w-clause-answers
returns-in_err-w-clause-answers c = search (passed_or, out_of_range_lem, none_number, refl, rules)

pub returns-then-not-is_replied-clause-answers : goal.returns-then-not-is_replied-clause-answers
returns-then-not-is_replied-clause-answers c = search (no_reply, some_number, some_lt, rules)

pub returns-clause-answers : goal.returns-clause-answers
returns-clause-answers c = search (buffered_told, some_number, some_lt, rules)
