-- `answer` meets its contract.
use borrow.Author.Rules.{rules}
use Rattle.answers.proofs.Passing.{passed_on}
use Rattle.caller.proofs.Standing.{turned, stands}
use Rattle.call_abandon.proofs.Laws.{asks, abandons}
use Rattle.call_abandon.proofs.answer.Goals as goal

pub returns-in_err-of-clause-answers : goal.returns-in_err-of-clause-answers
returns-in_err-of-clause-answers c = search (passed_on, turned asks, rules)

pub returns-clause-answers : goal.returns-clause-answers
returns-clause-answers c = search (abandons, stands asks, rules)
