-- `answer` meets its contract.
use borrow.Author.Rules.{rules}
use Rattle.answers.proofs.Passing.{passed_on}
use Rattle.caller.proofs.Standing.{its_session, turned, stands}
use Rattle.call_report.proofs.Laws.{asks, reports}
use Rattle.call_report.proofs.answer.Goals as goal

pub returns-in_err-s-clause-answers : goal.returns-in_err-s-clause-answers
returns-in_err-s-clause-answers c = search (passed_on, turned asks, rules)

pub returns-clause-answers : goal.returns-clause-answers
returns-clause-answers c = search (reports, stands asks, its_session, rules)
