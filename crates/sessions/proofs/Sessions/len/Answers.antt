-- `Sessions::len` meets its contract.
use Rattle.sessions.proofs.SessionsLaws.{len_is}
use Rattle.sessions.proofs.Sessions.len.Goals as goal

pub returns : goal.returns
returns c = len_is _ c.used.ensures
