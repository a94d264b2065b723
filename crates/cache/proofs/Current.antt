-- Where the cached keys hold the current fields, what `Cache::up_to_date` promises is the rules' `up_to_date` of the stock after the changes.
use Prim.Native.Nat.{ℕ, suc}
use native.Mathlib.Numerals.{add-one}
use mathlib.Core.Path.{◌≡◌, refl, ◌∙◌, ap, ap₂}
use mathlib.Core.Bool.{true}
use mathlib.Core.List.{List, [], ◌∷◌, map}
use lib.ListN.{get_or}
use Rattle.rules.specs.Lists.{all}
use Rattle.rules.specs.Values.{Place, Stock, same_field}
use Rattle.rules.specs.Changes.{Update, run, follow}
use Rattle.rules.specs.Tables as M
use Rattle.rules.specs.Effects.{up_to_date}
use Rattle.rules.specs.Kept.{is_current}
use Rattle.rules.proofs.Tests.{all_head, all_tail, same_list_is}
use Rattle.rules.proofs.KeptTest.{field_is}
use Rattle.keys.specs.View.{no_place}
use Rattle.lists.specs.Find.{map_from}
use Rattle.cache.specs.cached.View.{after_changes}

-- a map by places that starts one further on
map_from_later : {A B : Type 0} (g : ℕ → A → B) (i : ℕ) (l : List A) → map_from g (suc i) l ≡ map_from (λ j. g (suc j)) i l
unfolding map_from
map_from_later g i [] = refl
map_from_later g i (x ∷ l) = rw (add-one (suc i), add-one i) (ap (λ r. g (suc i) x ∷ r) (map_from_later g (suc i) l))

module _ (now : Stock) (cs : List Update) where
  -- the current fields of places after changes are the fields after the changes
  run-all : (qs : List Place) → map_from (λ i f. run cs (get_or qs i no_place) f) 0 (map now qs) ≡ map (follow now cs) qs
  unfolding map_from
  run-all [] = refl
  run-all (q ∷ qs) = ap (λ r. run cs q (now q) ∷ r) (map_from_later _ 0 (map now qs) ∙ run-all qs)

  module _ (keys : ℕ → List Place) where
    pub current_one : (c : M.Cached) → c.fields ≡ map now (keys c.key) → after_changes cs (keys c.key) c ≡ up_to_date keys (follow now cs) c
    unfolding after_changes
    current_one c e = ap (λ x. record { key = c.key; fields = x }) (ap (map_from (λ i f. run cs (get_or (keys c.key) i no_place) f) 0) e ∙ run-all (keys c.key))

    pub current_all : (l : List M.Cached) → all (is_current now keys) l ≡ true → map (λ c. after_changes cs (keys c.key) c) l ≡ map (up_to_date keys (follow now cs)) l
    current_all [] e = refl
    current_all (c ∷ l) e =
        ap₂ ◌∷◌ (current_one c (same_list_is same_field field_is c.fields (map now (keys c.key)) (all_head (is_current now keys) c l e)))
        (current_all l (all_tail (is_current now keys) c l e))
