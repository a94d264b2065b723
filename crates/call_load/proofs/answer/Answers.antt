-- `answer` meets its contract.
use Rattle.std.proofs.Common.{rules}
use Rattle.answers.proofs.Passing.{passed_on, passed_or}
use Rattle.call_load.proofs.Laws.{out_of_range_lem, begun, away, done, met}
use Rattle.call_load.proofs.answer.Goals as goal

pub returns-in_err-c-clause-answers : goal.returns-in_err-c-clause-answers
returns-in_err-c-clause-answers c = search (passed_or, out_of_range_lem, rules)

pub returns-then-p-gt-FIRST_SESSION-clause-answers : goal.returns-then-p-gt-FIRST_SESSION-clause-answers
returns-then-p-gt-FIRST_SESSION-clause-answers c = search (begun c.update.result, rules)

pub returns-then-not-p-clause-answers : goal.returns-then-not-p-clause-answers
returns-then-not-p-clause-answers c = search (away c.update.result, rules)

pub returns-in_err-met-clause-answers : goal.returns-in_err-met-clause-answers
returns-in_err-met-clause-answers c = search (passed_on, met c.update.result c.in_ok-c.c, rules)

pub returns-clause-answers : goal.returns-clause-answers
returns-clause-answers c = search (done c.update.result c.in_ok-c.c c.met.result, rules)
