-- `Sessions::others_exclusive` meets its contract.
use borrow.Author.Rules.{rules}
use borrow.Author.Tests.{tests}
use mathlib.Core.Bool.{not, ◌&&◌}
use lib.Dec.{eqb}
use Rattle.rules.specs.Tables.{is_exclusive}
use Rattle.lists.proofs.Iterators.{shown_used, shown_any}
use Rattle.sessions.specs.View.{view_sessions}
use Rattle.sessions.proofs.Sessions.others_exclusive.Goals as goal

pub returns : goal.returns
unfolding view_sessions
returns c = shown_any (λ s. not (eqb c.args.n s.number) && is_exclusive (s.session.lease c.args.d)) c.any.ensures.ran (shown_used _ _ c.iter.ensures.rest c.used.ensures) (λ x b f k. search (rules, tests))
