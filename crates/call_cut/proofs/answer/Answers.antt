-- `answer` meets its contract.
use Rattle.std.proofs.Common.{rules, refl}
use Rattle.arguments.proofs.Numbers.{none_number, some_number, some_lt}
use Rattle.answers.proofs.Passing.{passed_or}
use Rattle.call_cut.proofs.Laws.{out_of_range_lem, told}
use Rattle.call_cut.proofs.answer.Goals as goal

pub returns-in_err-ok_or-clause-answers : goal.returns-in_err-ok_or-clause-answers
returns-in_err-ok_or-clause-answers c = search (passed_or, out_of_range_lem, none_number, refl, rules)

pub returns-clause-answers : goal.returns-clause-answers
returns-clause-answers c = search (told, some_number, some_lt, refl, rules)
