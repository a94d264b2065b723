-- `answer` meets its contract.
use borrow.Author.Rules.{rules}
use Rattle.answers.proofs.Passing.{passed_on}
use Rattle.caller.proofs.Standing.{its_session, turned, stands}
use Rattle.call_commit.proofs.Laws.{asks, nothing_changed, full, buffers}
use Rattle.call_commit.proofs.answer.Goals as goal

pub returns-in_err-s-clause-answers : goal.returns-in_err-s-clause-answers
returns-in_err-s-clause-answers c = search (passed_on, turned asks, rules)

pub returns-then-is_empty-clause-answers : goal.returns-then-is_empty-clause-answers
returns-then-is_empty-clause-answers c = search (nothing_changed, stands asks, its_session, rules)

pub returns-then-count-ge-LIMIT-clause-answers : goal.returns-then-count-ge-LIMIT-clause-answers
returns-then-count-ge-LIMIT-clause-answers c = search (full, stands asks, its_session, rules)

pub returns-clause-answers : goal.returns-clause-answers
returns-clause-answers c = search (buffers, stands asks, its_session, rules)
