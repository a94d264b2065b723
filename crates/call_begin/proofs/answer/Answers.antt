-- `answer` meets its contract.
use Rattle.call_begin.proofs.Laws.{spent, full, begins}
use mathlib.Core.Path.{refl}
use borrow.Author.Rules.{rules}
use Rattle.call_begin.proofs.answer.Goals as goal

pub returns-then-number-gt-LAST_SESSION-clause-answers : goal.returns-then-number-gt-LAST_SESSION-clause-answers
returns-then-number-gt-LAST_SESSION-clause-answers c = search (spent, rules)

pub returns-then-is_full-clause-answers : goal.returns-then-is_full-clause-answers
returns-then-is_full-clause-answers c = search (full, refl, rules)

pub returns-clause-answers : goal.returns-clause-answers
returns-clause-answers c = search (begins, refl, rules)
