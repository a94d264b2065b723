-- The cached key of a number, and a run of words that shows fields at its front.
use Rattle.std.specs.Prelude.{ℕ, ◌*◌, cond, List, [], ◌++◌, eqb, leb, ℤ, length, drop}
use Rattle.rules.specs.Limits.{words_per_field}
use Rattle.rules.specs.Lists.{from}
use Rattle.rules.specs.Values.{Field, show_all}
use Rattle.rules.specs.Tables.{Cached}

-- without fields where it is not cached
unfoldable pub cached_at : ℕ → List Cached → Cached
cached_at k = from (λ c. eqb k c.key) (λ c. c) (record { key = k; fields = [] })

-- as they were where there are too few
unfoldable pub shown_in : List Field → List ℤ → List ℤ
shown_in fs lent = cond (leb (words_per_field * length fs) (length lent)) (show_all fs ++ drop (words_per_field * length fs) lent) lent
