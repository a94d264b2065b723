-- `admitted` meets its contract.
use borrow.Author.Rules.{rules}
use Rattle.call_read.proofs.admission.AdmissionLaws.{out_of_range_lem, turned, undefined, few_words_lem, elsewhere, is_near_lem, away, known}
use Rattle.call_read.proofs.admission.admitted.Goals.{else-not-near-via-then-not-near+else-unknown_away, else-not-near-via-else-not-near}
use Rattle.call_read.proofs.admission.admitted.Goals as goal

pub returns-then-k-ge-LIMIT : goal.returns-then-k-ge-LIMIT
returns-then-k-ge-LIMIT c = λ words e. search (out_of_range_lem, rules)

pub returns-in_err-s : goal.returns-in_err-s
returns-in_err-s c = λ words e. turned _ _ _ _ _ _ _ _ c.if-k-ge-LIMIT.false _ c.from_residual.ensures.1 c.in_err-s.ensures

pub returns-then-is_empty : goal.returns-then-is_empty
returns-then-is_empty c = λ words e. search (undefined, rules)

pub returns-then-lent-len : goal.returns-then-lent-len
returns-then-lent-len c = λ words e. search (few_words_lem, rules)

pub returns-then-hindered : goal.returns-then-hindered
returns-then-hindered c = λ words e. elsewhere _ _ _ _ _ _ _ _ c.if-k-ge-LIMIT.false c.in_ok-s.ensures _ c.key-key.ensures.shows c.is_empty.ensures c.if-is_empty.false e c.len.ensures c.if-lent-len.false c.hindered.ensures c.if-hindered.true

pub returns-then-unknown_away : goal.returns-then-unknown_away
returns-then-unknown_away c = λ words e. away _ _ _ _ _ _ _ _ c.if-k-ge-LIMIT.false c.in_ok-s.ensures _ c.key-key.ensures.shows c.is_empty.ensures c.if-is_empty.false e c.len.ensures c.if-lent-len.false c.hindered.ensures c.if-hindered.false c.if-not-near.true c.unknown_away.ensures c.if-unknown_away.true

pub returns : goal.returns
returns c =
    elim c.else-not-near.branch [
      | else-not-near-via-then-not-near+else-unknown_away w ↦ λ words e. known _ _ _ _ _ _ _ _ c.if-k-ge-LIMIT.false c.in_ok-s.ensures _ c.key-key.ensures.shows c.is_empty.ensures c.if-is_empty.false e c.len.ensures c.if-lent-len.false c.hindered.ensures c.if-hindered.false w.if-not-near.true w.unknown_away.ensures w.if-unknown_away.false
      | else-not-near-via-else-not-near w ↦ λ words e. is_near_lem _ _ _ _ _ _ _ _ c.if-k-ge-LIMIT.false c.in_ok-s.ensures _ c.key-key.ensures.shows c.is_empty.ensures c.if-is_empty.false e c.len.ensures c.if-lent-len.false c.hindered.ensures c.if-hindered.false w.if-not-near.false
    ]
