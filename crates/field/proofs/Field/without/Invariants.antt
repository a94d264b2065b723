-- The list of the values that do not equal another.
use Rattle.field.proofs.ChangeLaws.{Pulling}
use Rattle.field.proofs.Field.without.Given as goal

abbrev pub invariant-loop-x : goal.invariant-loop-x
invariant-loop-x l = Pulling l.v l.fn.self l.n l.kept l.x-index
