-- `natural` meets its contract.
use Rattle.std.proofs.Common.{arith}
use Rattle.line_parse.proofs.columns.ColumnLaws.{small_before}
use Rattle.line_parse.proofs.columns.natural.Goals as goal

pub overflow_mul-value : goal.overflow_mul-value
overflow_mul-value c = omega (arith, small_before c.args.digits.now c.loop-b.b-index c.loop-b.invariant.small (omega arith) (omega arith))

pub overflow_add-value : goal.overflow_add-value
overflow_add-value c = omega (arith, small_before c.args.digits.now c.loop-b.b-index c.loop-b.invariant.small (omega arith) (omega arith))
