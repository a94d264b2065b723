-- `answer` meets its contract.
use Rattle.call_sweep.proofs.Laws.{away, removed_told}
use mathlib.Core.Path.{refl}
use borrow.Author.Rules.{rules}
use Rattle.call_sweep.proofs.answer.Goals as goal

pub returns-then-not-p-clause-answers : goal.returns-then-not-p-clause-answers
returns-then-not-p-clause-answers c = search (away, rules)

pub returns-clause-answers : goal.returns-clause-answers
returns-clause-answers c = search (removed_told, refl, rules)
