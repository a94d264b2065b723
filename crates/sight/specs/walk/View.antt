-- What a walk found, as the rules see it, and from which buffered session on a field can be worked out by it.
use Rattle.std.specs.Prelude.{◌≡◌, true, List, ◌++◌, drop, is_some, IfSome}
use Rattle.rules.specs.Values.{Place}
use Rattle.rules.specs.Changes.{Update, sets_it}
use Rattle.rules.specs.Tables.{Batch, changes_in}
use Rattle.rules.specs.Reading as R
use Rattle.sight.specs.declared.walk.Walk.{Walk}

unfoldable pub view_walk : Walk → R.Walk
view_walk w = record { found = is_some w.found; looked = w.looked }

-- where it found a change, the buffered sessions from that one on and the own changes set or unset the place
abbrev pub Since : List Batch → List Update → Place → Walk → Type 0
Since buffer own q w = IfSome w.found (λ from. sets_it (changes_in (drop from buffer) ++ own) q ≡ true)
