-- `of` meets its contract.
use Rattle.caller.proofs.Standing.{has_none, was_doomed_lem, may_call}
use borrow.Author.Rules.{rules}
use Rattle.caller.proofs.of.Goals as goal

pub returns-then-not-has : goal.returns-then-not-has
returns-then-not-has c = search (has_none, rules)

pub returns-then-is_doomed : goal.returns-then-is_doomed
returns-then-is_doomed c = search (was_doomed_lem, rules)

pub returns : goal.returns
returns c = search (may_call, rules)
