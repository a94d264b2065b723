-- `is_within` meets its contract.
use borrow.Author.Tests.{lt-ltb, le-ltb}
use Rattle.std.proofs.Common.{refl}
use Rattle.keys.specs.View.{view_place}
use Rattle.arguments.proofs.change.is_within.Goals as goal

pub returns-then-q-lt-DOCUMENTS : goal.returns-then-q-lt-DOCUMENTS
unfolding view_place
returns-then-q-lt-DOCUMENTS c = rw (lt-ltb _ _ c.if-q-lt-DOCUMENTS.true) refl

pub returns-else-q-lt-DOCUMENTS : goal.returns-else-q-lt-DOCUMENTS
unfolding view_place
returns-else-q-lt-DOCUMENTS c = rw (le-ltb _ _ c.if-q-lt-DOCUMENTS.false) refl
