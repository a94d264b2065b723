-- A table of which the first n entries count: what it shows through a view of its entries, its one form, and tests of its entries.
use denote.Ref.{Bor}
use denote.Param.Members.{Shared}
use Rattle.std.specs.Prelude.{ℕ, ◌≡◌, Bool, ◌&&◌, List, map, length, take, drop, eqb, leb}
use Rattle.rules.specs.Lists.{all}

unfoldable pub counted : {A B : Type 0} → (A → B) → ℕ → List A → List B
counted view n xs = take n (map view xs)

-- a table of k entries, n of them in use: each of these passes one test, every other entry the other
unfoldable pub table_form : {A : Type 0} → ℕ → (A → Bool) → (A → Bool) → ℕ → List A → Bool
table_form k used unused n xs = eqb (length xs) k && leb n k && all used (take n xs) && all unused (drop n xs)

-- a table of k entries, all of them in use
unfoldable pub array_form : {A : Type 0} → ℕ → (A → Bool) → List A → Bool
array_form k used xs = eqb (length xs) k && all used xs

-- a closure answers p of each entry
abbrev pub IsTest : {F A : Type 0} → Shared F (Bor A × Unit {0}) Bool → F → (A → Bool) → Type 0
IsTest {A = A} g f p = (x : Bor A) (b : Bool) → g.post f (x, tt) b → b ≡ p x.now
