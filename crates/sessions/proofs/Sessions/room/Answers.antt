-- `Sessions::room` meets its contract.
use Rattle.lists.proofs.Loops.{length_mapped}
use Rattle.sessions.proofs.SessionsLaws.{room_there, room_made}
use borrow.Author.Rules.{rules}
use Rattle.sessions.proofs.Sessions.room.Goals as goal

pub returns-then-self-lt-LIMIT-clause-shows : goal.returns-then-self-lt-LIMIT-clause-shows
returns-then-self-lt-LIMIT-clause-shows c = room_there _ (search (length_mapped, rules)) c.if-self-lt-LIMIT.true

pub returns-clause-shows : goal.returns-clause-shows
returns-clause-shows c = search (room_made, length_mapped, rules)
