-- Calls that are run are a list of calls as the demands speak of it.
use mathlib.Core.Path.{refl, sym, ap}
use mathlib.Core.List.{List, [], ◌∷◌}
use lib.IntN.{ℤ}
use lib.ListN.{take, drop}
use Rattle.std.specs.Prelude.{Result}
use Rattle.answers.specs.declared.Answer.{Answer}
use Rattle.answers.specs.declared.Refusal.{Refusal}
use Rattle.calls.specs.declared.Call.{Call}
use Rattle.entry.specs.Listed.{Listed}

pub listed : Listed
listed n p [] [] lent words q r = record { events = []; calls = refl; lends = refl; answers = refl; fills = refl; runs = tt; leaves = sym r.0 }
listed n p [] (t ∷ ts) lent words q r = absurd r
listed n p (c ∷ cs) [] lent words q r = absurd r
listed n p (c ∷ cs) (t ∷ ts) lent words q r =
    let rest = listed n r.0 cs ts (drop n lent) (drop n words) q r.1.1 in
    record {
      events = record { call = c; lent = take n lent; answer = t.answer; words = take n words; plant = r.0 } ∷ rest.events;
      calls = ap (λ (l : List Call). c ∷ l) rest.calls;
      lends = ap (λ (l : List (List ℤ)). take n lent ∷ l) rest.lends;
      answers = ap (λ (l : List (Result Answer Refusal)). t.answer ∷ l) rest.answers;
      fills = ap (λ (l : List (List ℤ)). take n words ∷ l) rest.fills;
      runs = (r.1.0.runs, rest.runs);
      leaves = rest.leaves;
    }
