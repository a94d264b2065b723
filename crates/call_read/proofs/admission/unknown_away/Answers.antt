-- `unknown_away` meets its contract.
use borrow.Author.Rules.{rules}
use borrow.Author.Tests.{tests}
use mathlib.Core.Bool.{not}
use Rattle.rules.specs.Values as S
use Rattle.rules.specs.Reading.{known_away}
use Rattle.keys.specs.View.{view_key, view_keys}
use Rattle.changes.specs.View.{view_changes}
use Rattle.buffer.specs.View.{view_buffer}
use Rattle.cache.specs.View.{view_cache}
use Rattle.lists.proofs.Iterators.{shown_used, shown_any}
use Rattle.call_read.proofs.admission.unknown_away.Goals as goal

pub returns : goal.returns
unfolding view_key
returns c =
    let a = c.args in
    shown_any (λ (q : S.Place). not (known_away (view_keys a.keys) (view_cache a.cache) (view_buffer a.buffer) (view_changes a.own) q)) c.any.ensures.ran (shown_used _ _ c.iter.ensures.rest c.used.ensures) (λ x b f k. search (rules, tests))
