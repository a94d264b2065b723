-- `len` meets its contract.
use Rattle.lists.proofs.Loops.{length_mapped}
use Rattle.call_read_shown.proofs.values.ValuesLaws.{len_used, len_few}
use Rattle.call_read_shown.proofs.values.len.Goals as goal

pub returns-clause-few : goal.returns-clause-few
returns-clause-few c = len_few c.args.c (search length_mapped) c.used.ensures

pub returns-clause-shows : goal.returns-clause-shows
returns-clause-shows c = len_used c.args.c c.used.ensures
