-- `Session::grant` meets its contract.
use Rattle.sessions.proofs.session.SessionLaws.{grant_own, grant_holder, grant_other}
use borrow.Author.Rules.{rules}
use Rattle.sessions.proofs.session.Session.grant.Goals as goal

pub returns-then-self-n-clause-shows : goal.returns-then-self-n-clause-shows
returns-then-self-n-clause-shows c = grant_own _ _ _ _ (search rules) _ _ _ c.if-self-n.true c.since-ticks.ensures c.with_exclusive.ensures.shows c.with_last.ensures.shows

pub returns-then-holds-clause-shows : goal.returns-then-holds-clause-shows
returns-then-holds-clause-shows c = search (grant_holder, rules)

pub returns-clause-shows : goal.returns-clause-shows
returns-clause-shows c = search (grant_other, rules)
