-- A set with one document more: its digit is set; from 64 on nothing changes.
use borrow.Author.Rules.{rules}
use Rattle.docset.proofs.SetLaws.{with_is, with_past}
use Rattle.docset.proofs.with.Goals as goal

pub returns-then-d-lt-DOCUMENTS : goal.returns-then-d-lt-DOCUMENTS
returns-then-d-lt-DOCUMENTS c = with_is _ _ c.if-d-lt-DOCUMENTS.true

pub returns-else-d-lt-DOCUMENTS : goal.returns-else-d-lt-DOCUMENTS
returns-else-d-lt-DOCUMENTS c = search (with_past, rules)
