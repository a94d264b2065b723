-- The numbers that a caller's stand for: of a session, 0 where no session can have it, and of one of a count, if there is one.
use Rattle.std.specs.Prelude.{ℕ, suc, cond, ℤ, Option, Some, None}
use Rattle.rules.specs.Limits.{last_session}
use Rattle.rules.specs.Values.{below, nat_of}

abbrev pub session_number : ℤ → ℕ
session_number z = cond (below z (suc last_session)) (nat_of z) 0

abbrev pub index_number : ℤ → ℕ → ℕ
index_number z count = cond (below z count) (nat_of z) count

abbrev pub index_of : ℤ → ℕ → Option ℕ
index_of z count = cond (below z count) (Some (nat_of z)) None
