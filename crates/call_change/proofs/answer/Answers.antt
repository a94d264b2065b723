-- `answer` meets its contract.
use borrow.Author.Rules.{rules}
use Rattle.answers.proofs.Passing.{passed_on, passed_or}
use Rattle.call_change.proofs.Laws.{out_of_range_lem, turned_away, meeting, found_out, found-turned, found-later}
use Rattle.call_change.proofs.answer.Goals as goal

pub returns-in_err-c-clause-away : goal.returns-in_err-c-clause-away
returns-in_err-c-clause-away c = λ h. search (passed_or, found_out, rules)

pub returns-in_err-c-clause-answers : goal.returns-in_err-c-clause-answers
returns-in_err-c-clause-answers c = search (passed_or, out_of_range_lem, rules)

pub returns-in_err-s-clause-away : goal.returns-in_err-s-clause-away
returns-in_err-s-clause-away c = λ h. search (passed_on, found-turned c.update.result, rules)

pub returns-in_err-s-clause-answers : goal.returns-in_err-s-clause-answers
returns-in_err-s-clause-answers c = search (passed_on, turned_away c.update.result, rules)

pub returns-clause-away : goal.returns-clause-away
returns-clause-away c = λ h. search (found-later c.update.result, rules)

pub returns-clause-answers : goal.returns-clause-answers
returns-clause-answers c = search (meeting c.update.result, rules)

pub returns-clause-own : goal.returns-clause-own
returns-clause-own c = c.later.ensures.own c.args.session c.args.document c.args.field c.args.kind c.args.value
