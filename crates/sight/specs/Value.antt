-- A place's field as it is found: with the store while it is near, and without it while it is away.
use Rattle.std.specs.Prelude.{ℕ, Bool, cond, List}
use Rattle.rules.specs.Values.{Place, Stock}
use Rattle.rules.specs.Changes.{Update, follow}
use Rattle.rules.specs.Tables.{Cached, Batch, pending, changes_in, Plant}
use Rattle.rules.specs.Reading.{seen_away}

abbrev pub value_by : Bool → Stock → (ℕ → List Place) → List Cached → List Batch → List ℕ → List Update → Stock
value_by near store keys cache buffer rows own q =
    cond near (follow (follow store (changes_in (pending rows buffer))) own q) (seen_away keys cache buffer own q)

abbrev pub value : Plant → List Update → Stock
value p = value_by p.near p.store p.keys p.cache p.buffer p.rows
