-- `finish` meets its contract.
use Rattle.kagbitu.proofs.Run.{all_served}
use Rattle.kagbitu.proofs.finish.Goals as goal

pub returns-clause-serves : goal.returns-clause-serves
returns-clause-serves c = λ r. all_served _ c.requires.ended _ _ (c.finish-finished.ensures.serves r)
