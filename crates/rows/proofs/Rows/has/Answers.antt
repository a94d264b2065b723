-- `Rows::has` meets its contract.
use Rattle.lists.proofs.Iterators.{shown_has}
use Rattle.rows.proofs.Rows.has.Goals as goal

pub returns : goal.returns
returns c = shown_has _ _ _ c.contains.ensures.value c.used.ensures
