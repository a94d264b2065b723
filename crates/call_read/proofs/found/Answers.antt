-- `found` meets its contract.
use native.Mathlib.Omega.{arith}
use borrow.Author.Rules.{rules}
use mathlib.Core.Path.{◌∙◌, ap}
use mathlib.Core.Option.{some}
use Rattle.rules.specs.Limits.{key_count}
use Rattle.arguments.proofs.Numbers.{held, none_number, some_number}
use Rattle.answers.specs.View.{view_refusal}
use Rattle.call_read.proofs.Laws.{named_by, found_turned, found_shown}
use Rattle.call_read.proofs.admission.AdmissionLaws.{out_of_range_lem}
use Rattle.call_read.proofs.found.Goals as goal

pub returns-in_err-k : goal.returns-in_err-k
returns-in_err-k c =
    let a = c.args in
    let d = named_by _ _ _ c.in_err-k.ensures.value in
    found_turned a.p a.session (search rules) _ c.session-n.ensures a.key (search rules) key_count (none_number (held a.key) _ _ c.index.ensures d.0) a.lent _ _ c.from_residual.ensures.1
    (λ words e. ap (λ x. some (view_refusal x)) d.1 ∙ out_of_range_lem _ _ _ _ _ _ _ words (omega arith))

pub returns-in_err-admitted : goal.returns-in_err-admitted
returns-in_err-admitted c =
    let a = c.args in
    found_turned a.p a.session (search rules) _ c.session-n.ensures a.key (search rules) c.in_ok-k.k (search (some_number, rules)) a.lent _ _ c.from_residual-in_err-admitted.ensures.1 c.in_err-admitted.ensures

pub returns : goal.returns
returns c =
    let a = c.args in
    found_shown a.p a.session (search rules) _ c.session-n.ensures a.key (search rules) c.in_ok-k.k (search (some_number, rules)) a.lent _ c.in_ok-admitted.ensures c.shown.ensures.mark c.shown.ensures.fields c.shown.ensures.form
