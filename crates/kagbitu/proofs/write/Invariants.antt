-- `write` is safe and ends: what is left to write lies within the bytes, and the tries fall.
use Rattle.kagbitu.specs.Part.{Inside}
use Rattle.kagbitu.proofs.write.Given as goal

abbrev pub invariant-loop-tries : goal.invariant-loop-tries
invariant-loop-tries g l = Inside l.rest l.out

abbrev pub decreases-loop-tries : goal.decreases-loop-tries
decreases-loop-tries g l = l.tries
