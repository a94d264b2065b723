-- `Session::shared_count` meets its contract.
use Rattle.sessions.proofs.session.SessionLaws.{fewer_exclusive, shared_count}
use Rattle.sessions.proofs.session.Session.shared_count.Goals as goal

pub overflow_sub-result : goal.overflow_sub-result
overflow_sub-result c = search fewer_exclusive

pub returns : goal.returns
returns c = search shared_count
