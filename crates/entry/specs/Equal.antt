-- Nothing is left free: two plants that are seen alike and get equal calls answer, show and leave the same. Its proof is proofs/Equal, from the
-- entry's promise alone.
use Rattle.std.specs.Prelude.{◌≡◌, true, List, map}
use Rattle.plant.specs.View.{view_plant, kept_plant}
use Rattle.plant.specs.declared.Plant.{Plant}
use Rattle.entry.specs.Demand3.{Event, Runs, left, turns_of, exchanges_of}

pub record Alike (p : Plant) (es : List Event) (q : Plant) (fs : List Event) : Type 0 where
  pub answers : exchanges_of es ≡ exchanges_of fs
  pub shows : map (λ (e : Event). e.words) es ≡ map (λ (e : Event). e.words) fs
  pub leaves : view_plant (left p es) ≡ view_plant (left q fs)

-- whatever the calls, if they are equal and equal words are lent to them
abbrev pub EqualCalls : Type 0
EqualCalls =
    (p q : Plant) → view_plant p ≡ view_plant q → kept_plant p ≡ true → kept_plant q ≡ true
    → (es fs : List Event) → Runs p es → Runs q fs → turns_of es ≡ turns_of fs → Alike p es q fs
