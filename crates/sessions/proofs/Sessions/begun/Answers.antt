-- `Sessions::begun` meets its contract.
use borrow.Author.Rules.{rules}
use Rattle.lists.proofs.Loops.{length_mapped}
use Rattle.lists.proofs.Iterators.{push_shows, push_form}
use Rattle.sessions.specs.View.{view_sessions}
use Rattle.sessions.specs.Form.{sessions_form}
use Rattle.sessions.proofs.SessionsLaws.{begun_is}
use Rattle.sessions.proofs.Sessions.begun.Goals as goal

pub returns-clause-shows : goal.returns-clause-shows
unfolding view_sessions
returns-clause-shows c = begun_is _ _ _ _ _ _ c.room-t.ensures.shows c.opened.ensures.shows (search (push_shows, length_mapped, rules))

pub returns-clause-form : goal.returns-clause-form
unfolding sessions_form
returns-clause-form c = λ f. search (push_form, length_mapped, rules)
