-- `fields` meets its contract.
use Rattle.call_read_shown.proofs.values.ValuesLaws.{Filling}
use Rattle.call_read_shown.proofs.values.fields.Given as goal

abbrev pub invariant-loop-q : goal.invariant-loop-q
invariant-loop-q g l = Filling (λ q f. g.F.Fn.post l.field (q, tt {0}) f) l.fn.key l.k l.q-items l.t l.q-index
