-- `digits` meets its contract.
use Prim.Native.Nat.{◌-◌}
use native.Mathlib.Omega.{arith}
use borrow.Author.Rules.{rules}
use Rattle.line_print.proofs.columns.ColumnLaws.{too_few, fill_start, fill_end, fill_next, fill_sign, fill_last}
use Rattle.line_print.proofs.columns.digits.Goals as goal

pub returns-then-out-lt-NUMBER_WIDTH : goal.returns-then-out-lt-NUMBER_WIDTH
returns-then-out-lt-NUMBER_WIDTH c = search (too_few, rules)

pub loop-i-init : goal.loop-i-init
loop-i-init c = fill_start _ _ _ c.args.out.now _ (search rules) (search rules)

pub sign-requires : goal.sign-requires
sign-requires c = fill_sign c.loop-i.invariant _ _ (omega arith) c.digit.ensures

pub returns-then-rest-lt-BASE : goal.returns-then-rest-lt-BASE
returns-then-rest-lt-BASE c = fill_last c.loop-i.invariant (c.loop-i.i - 1) _ (omega arith) c.digit.ensures c.args.out.now _ (search rules) (search rules) (search rules) c.sign.ensures

pub loop-i-preserved : goal.loop-i-preserved
loop-i-preserved c = fill_next c.loop-i.invariant _ _ (omega arith) c.digit.ensures (search rules)

pub returns : goal.returns
returns c = fill_end c.loop-i.invariant c.args.out.now (search rules) (search rules) (search rules)
