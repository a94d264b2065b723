-- `hindered` meets its contract.
use borrow.Author.Rules.{rules}
use borrow.Author.Tests.{tests}
use Rattle.rules.specs.Values as S
use Rattle.rules.specs.Tables.{others_exclusive}
use Rattle.keys.specs.View.{view_place, view_key}
use Rattle.sessions.specs.View.{view_sessions}
use Rattle.lists.proofs.Iterators.{shown_used, shown_any}
use Rattle.call_read.proofs.admission.hindered.Goals as goal

pub returns : goal.returns
unfolding view_place view_key
returns c = shown_any (λ (q : S.Place). others_exclusive c.args.n q.document (view_sessions c.args.sessions)) c.any.ensures.ran (shown_used _ _ c.iter.ensures.rest c.used.ensures) (λ x b f k. search (rules, tests))
