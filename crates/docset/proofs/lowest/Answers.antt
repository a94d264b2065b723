-- The lowest document of a set: the number of zeros below its lowest 1.
use Rattle.docset.proofs.SetLaws.{lowest_fits, lowest_is}
use Rattle.docset.proofs.lowest.Goals as goal

pub overflow_cast-result : goal.overflow_cast-result
overflow_cast-result c = search lowest_fits

pub returns : goal.returns
returns c = search lowest_is
