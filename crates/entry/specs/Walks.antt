-- Look from the newest booking back, of the code: which calls that are run through the entry get 20 while the store is away. Its proof is
-- proofs/Walks, from the rules' theorem and the entry's promise alone.
use Rattle.std.specs.Prelude.{ℕ, ◌≡◌, false, not, true, List, ℤ, Result}
use Rattle.rules.specs.Lists.{any, all}
use Rattle.rules.specs.Refusals.{store_away}
use Rattle.rules.specs.Values.{nat_of}
use Rattle.rules.specs.Changes.{kind_of, is_set, place_of}
use Rattle.rules.specs.Calls as C
use Rattle.rules.specs.Calls.{refused, fine}
use Rattle.rules.specs.Walks.{found_by}
use Rattle.plant.specs.View.{view_plant}
use Rattle.plant.specs.declared.Plant.{Plant}
use Rattle.answers.specs.View.{view_answer}
use Rattle.answers.specs.declared.Answer.{Answer}
use Rattle.answers.specs.declared.Refusal.{Refusal}
use Rattle.calls.specs.declared.Call.{Call}
use Rattle.calls.specs.declared.Call.TheVariants.{Read, Change}
use Rattle.entry.specs.Ran.{Ran}

-- a call that is answered so
pub record Answered (c : Call) (p : Plant) (told : C.Answer) : Type 0 where
  pub lent : List ℤ
  pub answer : Result Answer Refusal
  pub words : List ℤ
  pub after : Plant
  pub ran : Ran c lent p answer words after
  pub is : view_answer answer ≡ told

-- one that gets 20 asks for a place that neither a cached key shows nor the walk finds; an accepted one asks for none such
pub record Decides (p : Plant) : Type 0 where
  pub read_unknown : (s k : ℤ) → Answered (Read s k) p (refused store_away) → any (λ q. not (found_by (view_plant p) s q)) ((view_plant p).keys (nat_of k)) ≡ true
  pub read_known : (s k : ℤ) (ns : List ℕ) → Answered (Read s k) p (fine ns) → all (found_by (view_plant p) s) ((view_plant p).keys (nat_of k)) ≡ true
  pub change_unknown : (s d f k v : ℤ) → Answered (Change s d f k v) p (refused store_away)
      → (is_set (kind_of (nat_of k)) ≡ false) × (found_by (view_plant p) s (place_of d f) ≡ false)
  pub change_known : (s d f k v : ℤ) (ns : List ℕ) → Answered (Change s d f k v) p (fine ns)
      → is_set (kind_of (nat_of k)) ≡ false → found_by (view_plant p) s (place_of d f) ≡ true

-- on any plant
abbrev pub WalkDecides : Type 0
WalkDecides = (p : Plant) → (view_plant p).near ≡ false → Decides p
