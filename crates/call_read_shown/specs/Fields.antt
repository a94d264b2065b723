-- What a read shows, as the code finds it. On a kept plant these are the fields that the session sees (`proofs/Kept`).
use Rattle.std.specs.Prelude.{ℕ, List, map}
use Rattle.rules.specs.Values as S
use Rattle.rules.specs.Changes.{Update}
use Rattle.rules.specs.Tables as M
use Rattle.rules.specs.Calls.{Mark, from_cache, cached_now, own_change}
use Rattle.rules.specs.Effects.{mark}
use Rattle.sight.specs.Value.{value}
use Rattle.call_read_shown.specs.values.Shown.{cached_at}

-- a session's changes, by its number
abbrev pub own_of : ℕ → M.Plant → List Update
own_of n p = (M.session n p.slots).changes

abbrev pub worked_fields : ℕ → ℕ → M.Plant → List S.Field
worked_fields n k p = map (value p (own_of n p)) (p.keys k)

abbrev pub by_mark : Mark → ℕ → ℕ → M.Plant → List S.Field
by_mark from_cache n k p = (cached_at k p.cache).fields
by_mark cached_now n k p = worked_fields n k p
by_mark own_change n k p = worked_fields n k p

unfoldable pub shown_fields : ℕ → ℕ → M.Plant → List S.Field
shown_fields n k p = by_mark (mark n k p) n k p
