-- A search of the documents of a set, from the lowest: is a tick at most the limit.
use mathlib.Core.Bool.{◌&&◌}
use lib.ListN.{get_or}
use lib.Dec.{leb}
use Rattle.rules.specs.Step.{count}
use Rattle.rules.specs.Lists.{any}
use Rattle.rules.specs.Tables.{documents}
use Rattle.docset.specs.Sets.{docs}
use Rattle.docset.proofs.Walk.{Looking}
use Rattle.docset.proofs.any_over.Given as goal

abbrev pub invariant-loop-rest : goal.invariant-loop-rest
invariant-loop-rest l = Looking (λ d. leb (get_or l.ticks d 0) l.limit) (any (λ d. docs l.set d && leb (get_or l.ticks d 0) l.limit) documents) l.rest

abbrev pub decreases-loop-rest : goal.decreases-loop-rest
decreases-loop-rest l = count (docs l.rest) documents
