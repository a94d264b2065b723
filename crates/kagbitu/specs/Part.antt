-- The bytes of a buffer that are not used yet.
use Rattle.std.specs.Prelude.{ℕ, ◌+◌, ◌-◌, ◌≤◌, ◌≡◌, List, length, take, drop}
use Rattle.kagbitu.specs.declared.part.Part.{Part}

abbrev pub unused : Part → List ℕ → List ℕ
unused p l = take (p.end - p.at) (drop p.at l)

abbrev pub Inside : Part → List ℕ → Type 0
Inside p l = (p.at ≤ p.end) × (p.end ≤ length l)

-- the first n bytes
pub record First (n : ℕ) (p : Part) : Type 0 where
  pub begins : p.at ≡ 0
  pub ends : p.end ≡ n

-- what is left where the first n are used
pub record Rest (n : ℕ) (p q : Part) : Type 0 where
  pub begins : q.at ≡ p.at + n
  pub ends : q.end ≡ p.end
