-- Bytes printed into lent ones.
use Rattle.std.specs.Prelude.{ℕ, cond, List, ◌++◌, drop, length, leb}

-- at the front of what is lent, which stays as it was where it is too short
unfoldable pub printed : List ℕ → List ℕ → List ℕ
printed bs lent = cond (leb (length bs) (length lent)) (bs ++ drop (length bs) lent) lent
