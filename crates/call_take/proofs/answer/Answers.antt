-- `answer` meets its contract.
use Rattle.std.proofs.Common.{rules, refl}
use Rattle.arguments.proofs.Numbers.{none_number, some_number, some_lt}
use Rattle.answers.proofs.Passing.{passed_or}
use Rattle.call_take.proofs.Laws.{out_of_range_lem, hand_full, queue_leased_lem, buffer_empty, oldest_told}
use Rattle.call_take.proofs.answer.Goals as goal

pub returns-in_err-w-clause-answers : goal.returns-in_err-w-clause-answers
returns-in_err-w-clause-answers c = search (passed_or, out_of_range_lem, none_number, refl, rules)

pub returns-then-is_full-clause-answers : goal.returns-then-is_full-clause-answers
returns-then-is_full-clause-answers c = search (hand_full, some_number, some_lt, refl, rules)

pub returns-then-is_leased-clause-answers : goal.returns-then-is_leased-clause-answers
returns-then-is_leased-clause-answers c = search (queue_leased_lem, some_number, some_lt, refl, rules)

pub returns-then-is_empty-clause-answers : goal.returns-then-is_empty-clause-answers
returns-then-is_empty-clause-answers c = search (buffer_empty, some_number, some_lt, refl, rules)

pub returns-clause-answers : goal.returns-clause-answers
returns-clause-answers c = search (oldest_told, some_number, some_lt, refl, rules)
