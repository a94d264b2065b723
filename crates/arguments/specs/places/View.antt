-- A map's four pairs as the rules see them, and the key that they make.
use Rattle.std.specs.Prelude.{ℕ, Bool, ◌||◌, cond, not, List, [], drop, take, map, ltb, ℤ}
use Rattle.rules.specs.Limits.{place_limit}
use Rattle.rules.specs.Lists.{any}
use Rattle.rules.specs.Values as S
use Rattle.rules.specs.Values.{twice}
use Rattle.rules.specs.Calls.{Pairs}
use Rattle.rules.specs.Conditions.{is_zero}
use Rattle.keys.specs.View.{view_place}
use Rattle.arguments.specs.declared.places.Places.{Places}

abbrev pub pairs : (d e f g h i j k : ℤ) → Pairs
pairs d e f g h i j k =
    record {
      first = record { document = d; field = e };
      second = record { document = f; field = g };
      third = record { document = h; field = i };
      fourth = record { document = j; field = k };
    }

unfoldable pub view_places : Places → List S.Place
view_places t = map view_place t.all

-- a place that is not in use is not zero
abbrev pub has_stray : ℕ → List S.Place → Bool
has_stray n l = any (λ q. not (is_zero q)) (drop n l)

-- the first n places, or none where they make no key
unfoldable pub key_of : ℕ → List S.Place → List S.Place
key_of n l = cond (ltb place_limit n || has_stray n l || twice (take n l)) [] (take n l)
