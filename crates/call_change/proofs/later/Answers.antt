-- `later` meets its contract.
use Rattle.call_change.proofs.Laws.{is_full_lem, is_elsewhere, is_away, is_met}
use borrow.Author.Rules.{rules}
use Rattle.call_change.proofs.later.Goals as goal

pub returns-then-count-ge-LIMIT-clause-shows : goal.returns-then-count-ge-LIMIT-clause-shows
returns-then-count-ge-LIMIT-clause-shows c = search (is_full_lem, rules)

pub returns-then-others_exclusive-clause-shows : goal.returns-then-others_exclusive-clause-shows
returns-then-others_exclusive-clause-shows c = search (is_elsewhere, rules)

pub returns-then-is_unknown-clause-shows : goal.returns-then-is_unknown-clause-shows
returns-then-is_unknown-clause-shows c = search (is_away, rules)

pub returns-clause-shows : goal.returns-clause-shows
returns-clause-shows c = search (is_met, rules)

pub returns-clause-own : goal.returns-clause-own
returns-clause-own c = c.met.ensures.own
