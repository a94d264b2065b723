-- Whether a document is in a set: by its digit, and none from 64 on.
use borrow.Author.Rules.{rules}
use borrow.Author.Tests.{le-ltb}
use mathlib.Core.Path.{◌∙◌}
use Rattle.docset.specs.Sets.{docs}
use Rattle.docset.proofs.SetLaws.{docs_past}
use Rattle.docset.proofs.has.Goals as goal

pub returns-then-d-lt-DOCUMENTS : goal.returns-then-d-lt-DOCUMENTS
unfolding docs
returns-then-d-lt-DOCUMENTS c = search rules

pub returns-else-d-lt-DOCUMENTS : goal.returns-else-d-lt-DOCUMENTS
returns-else-d-lt-DOCUMENTS c = le-ltb _ _ c.if-d-lt-DOCUMENTS.false ∙ search (docs_past, rules)
