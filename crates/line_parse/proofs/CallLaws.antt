-- The numbers of a call by their positions.
use Prim.Native.Nat.{ℕ, zero, suc, ◌<◌}
use native.Mathlib.Omega.{arith}
use mathlib.Core.Path.{◌≡◌, refl, sym}
use mathlib.Core.List.{List, [], ◌∷◌}
use lib.ListN.{get_or, take}
use lib.Dec.{lit<}
use lib.IntN.{ℤ, pos}
use Rattle.line_format.specs.Lines.{Name, loads, maps, begins, reads, changes, commits, abandons, advances, takes, applies, deletes, cuts, sweeps, stores, reports, arity, call_of, nth}

pub get_nth : (v : List ℤ) (i : ℕ) → get_or v i (pos 0) ≡ nth v i
get_nth [] i = refl
get_nth (z ∷ v) zero = refl
get_nth (z ∷ v) (suc i) = get_nth v i

nth-take : (k : ℕ) (v : List ℤ) (i : ℕ) → i < k → nth (take k v) i ≡ nth v i
nth-take zero v i h = absurd (omega arith)
nth-take (suc k) [] i h = refl
nth-take (suc k) (z ∷ v) zero h = refl
nth-take (suc k) (z ∷ v) (suc i) h = nth-take k v i (omega arith)

-- a call looks at as many numbers as it has
same_call : (a : Name) (f g : ℕ → ℤ) → ((i : ℕ) → i < arity a → f i ≡ g i) → call_of a f ≡ call_of a g
same_call loads f g h = rw (h 0 (lit< tt), h 1 (lit< tt), h 2 (lit< tt), h 3 (lit< tt))
same_call maps f g h = rw (h 0 (lit< tt), h 1 (lit< tt), h 2 (lit< tt), h 3 (lit< tt), h 4 (lit< tt), h 5 (lit< tt), h 6 (lit< tt), h 7 (lit< tt), h 8 (lit< tt), h 9 (lit< tt))
same_call begins f g h = refl
same_call reads f g h = rw (h 0 (lit< tt), h 1 (lit< tt))
same_call changes f g h = rw (h 0 (lit< tt), h 1 (lit< tt), h 2 (lit< tt), h 3 (lit< tt), h 4 (lit< tt))
same_call commits f g h = rw (h 0 (lit< tt))
same_call abandons f g h = rw (h 0 (lit< tt))
same_call advances f g h = rw (h 0 (lit< tt))
same_call takes f g h = rw (h 0 (lit< tt))
same_call applies f g h = rw (h 0 (lit< tt), h 1 (lit< tt))
same_call deletes f g h = rw (h 0 (lit< tt))
same_call cuts f g h = rw (h 0 (lit< tt))
same_call sweeps f g h = refl
same_call stores f g h = rw (h 0 (lit< tt))
same_call reports f g h = rw (h 0 (lit< tt))

pub taken_call : (a : Name) (v : List ℤ) → call_of a (nth v) ≡ call_of a (nth (take (arity a) v))
taken_call a v = same_call a (nth v) (nth (take (arity a) v)) (λ i h. sym (nth-take (arity a) v i h))
