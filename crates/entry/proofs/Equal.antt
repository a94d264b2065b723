-- Two plants with equal calls: each call's result is the rules' `step` of what is equal.
use mathlib.Core.Path.{◌≡◌, refl, sym, ap}
use mathlib.Core.Bool.{true≢false}
use mathlib.Core.List.{[], ◌∷◌, head-eq_of_cons-eq, tail-eq_of_cons-eq}
use Rattle.rules.specs.Lists.{is_empty}
use Rattle.rules.specs.Calls as C
use Rattle.rules.specs.History.{Turn}
use Rattle.plant.specs.View.{view_plant}
use Rattle.answers.specs.View.{view_answer}
use Rattle.calls.specs.View.{view_call}
use Rattle.entry.specs.Equal.{EqualCalls}

pub equal_calls : EqualCalls
equal_calls p q same k l [] [] rs ss ec = record { answers = refl; shows = refl; leaves = same }
equal_calls p q same k l [] (f ∷ fs) rs ss ec = absurd (true≢false (ap is_empty ec))
equal_calls p q same k l (e ∷ es) [] rs ss ec = absurd (true≢false (sym (ap is_empty ec)))
equal_calls p q same k l (e ∷ es) (f ∷ fs) rs ss ec =
    let x = rs.0 k in
    let y = ss.0 l in
    let call : view_call e.call ≡ view_call f.call = ap (λ (t : Turn). t.call) (head-eq_of_cons-eq ec) in
    let lent : e.lent ≡ f.lent = ap (λ (t : Turn). t.lent) (head-eq_of_cons-eq ec) in
    let one : ◌≡◌ {A = C.Result} (record { answer = view_answer e.answer; words = e.words; plant = view_plant e.plant }) (record { answer = view_answer f.answer; words = f.words; plant = view_plant f.plant }) =
    rw (x.answers, x.fills, x.leaves, y.answers, y.fills, y.leaves, call, lent, same) refl in
    let rest = equal_calls e.plant f.plant (ap (λ (z : C.Result). z.plant) one) x.keeps y.keeps es fs rs.1 ss.1 (tail-eq_of_cons-eq ec) in
    record {
      answers = rw (call, ap (λ (z : C.Result). z.answer) one, rest.answers) refl;
      shows = rw (ap (λ (z : C.Result). z.words) one, rest.shows) refl;
      leaves = rest.leaves;
    }
