-- The documents of either of two sets: digit by digit.
use mathlib.Core.Path.{fun_ext}
use Rattle.docset.proofs.SetLaws.{or_is}
use Rattle.docset.proofs.union.Goals as goal

pub returns : goal.returns
returns c = fun_ext (or_is _ _)
