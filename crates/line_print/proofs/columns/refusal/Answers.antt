-- `refusal` meets its contract.
use borrow.Author.Rules.{rules}
use Rattle.line_print.proofs.columns.ColumnLaws.{refusal_few, refusal_one, refusal_two}
use Rattle.line_print.proofs.columns.refusal.Goals.{then-n-lt-BASE, else-n-lt-BASE}
use Rattle.line_print.proofs.columns.refusal.Goals as goal

pub returns-then-out-lt-CALL_WIDTH : goal.returns-then-out-lt-CALL_WIDTH
returns-then-out-lt-CALL_WIDTH c = search (refusal_few, rules)

pub returns : goal.returns
returns c =
    elim c.if-n-lt-BASE.branch [
      | then-n-lt-BASE w ↦ search (refusal_one, rules)
      | else-n-lt-BASE w ↦ search (refusal_two, rules)
    ]
