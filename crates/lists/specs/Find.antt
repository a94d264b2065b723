-- Searches, folds and maps over a list, from its front.
use Rattle.std.specs.Prelude.{Bool, cond, List, [], ◌∷◌, ℕ, ◌+◌}

-- the place of the first element that passes the test, counted from i, or none
unfoldable pub first_at : {A : Type 0} → (A → Bool) → ℕ → ℕ → List A → ℕ
first_at p none i [] = none
first_at p none i (x ∷ xs) = cond (p x) i (first_at p none (i + 1) xs)

unfoldable pub fold : {A B : Type 0} → (B → A → B) → B → List A → B
fold f b [] = b
fold f b (x ∷ xs) = fold f (f b x) xs

-- each element made anew, by its place counted from i
unfoldable pub map_from : {A B : Type 0} → (ℕ → A → B) → ℕ → List A → List B
map_from g i [] = []
map_from g i (x ∷ xs) = g i x ∷ map_from g (i + 1) xs
