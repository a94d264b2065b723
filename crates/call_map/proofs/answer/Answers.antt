-- `answer` meets its contract.
use Rattle.std.proofs.Common.{rules, refl}
use Rattle.arguments.proofs.Numbers.{indexed, none_below, none_number, some_number, some_lt}
use Rattle.answers.proofs.Passing.{passed_or}
use Rattle.call_map.proofs.Laws.{no_key_lem, no_place_lem, begun, defined, no_count, bad, done}
use Rattle.call_map.proofs.answer.Goals as goal

pub returns-in_err-k-clause-answers : goal.returns-in_err-k-clause-answers
returns-in_err-k-clause-answers c = search (passed_or, no_key_lem, none_number, refl, rules)

pub returns-in_err-places-clause-answers : goal.returns-in_err-places-clause-answers
returns-in_err-places-clause-answers c = search (passed_or, no_place_lem c.in_ok-k.k, some_number, some_lt, rules)

pub returns-then-p-gt-FIRST_SESSION-clause-answers : goal.returns-then-p-gt-FIRST_SESSION-clause-answers
returns-then-p-gt-FIRST_SESSION-clause-answers c = search (begun c.in_ok-k.k c.of.result, some_number, some_lt, rules)

pub returns-then-not-is_empty-clause-answers : goal.returns-then-not-is_empty-clause-answers
returns-then-not-is_empty-clause-answers c = search (defined c.in_ok-k.k c.of.result, some_number, some_lt, rules)

pub returns-in_err-n-clause-answers : goal.returns-in_err-n-clause-answers
returns-in_err-n-clause-answers c = search (passed_or, no_count c.in_ok-k.k c.of.result, some_number, some_lt, none_below, indexed, rules)

pub returns-then-is_empty-clause-answers : goal.returns-then-is_empty-clause-answers
returns-then-is_empty-clause-answers c = search (bad c.in_ok-k.k c.of.result, some_number, some_lt, rules)

pub returns-clause-answers : goal.returns-clause-answers
returns-clause-answers c = search (done c.in_ok-k.k c.of.result, some_number, some_lt, rules)
