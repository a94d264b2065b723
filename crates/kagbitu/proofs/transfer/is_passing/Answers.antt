-- `is_passing` meets its contract: the kinds' test is that of the numbers.
use Rattle.std.proofs.Common.{rules, ◌≡◌, true, false}
use Rattle.kagbitu.specs.Transfer.{passing_kind}
use Rattle.kagbitu.proofs.Laws.{told_of_number}
use Rattle.kagbitu.proofs.transfer.is_passing.Goals as goal

pub returns-in-Interrupted-clause-number : goal.returns-in-Interrupted-clause-number
returns-in-Interrupted-clause-number c = let h : true ≡ passing_kind c.args.kind = search rules in told_of_number c.args.kind true h

pub returns-in_default-clause-number : goal.returns-in_default-clause-number
returns-in_default-clause-number c = let h : false ≡ passing_kind c.args.kind = search rules in told_of_number c.args.kind false h
