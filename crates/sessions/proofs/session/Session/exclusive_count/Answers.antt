-- `Session::exclusive_count` meets its contract.
use Rattle.sessions.proofs.session.SessionLaws.{exclusive_count}
use Rattle.sessions.proofs.session.Session.exclusive_count.Goals as goal

pub returns : goal.returns
returns c = search exclusive_count
