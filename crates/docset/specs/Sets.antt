-- A set of documents as a number: document d is in the set if the number's binary digit d is 1.
use Rattle.std.specs.Prelude.{◌%◌, ◌/◌, ◌^◌, ℕ, Bool, eqb}

unfoldable pub docs : ℕ → ℕ → Bool
docs set d = eqb (set / 2 ^ d % 2) 1
