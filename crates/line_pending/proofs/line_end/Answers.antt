-- `line_end` meets its contract.
use Rattle.std.proofs.Common.{rules, tests, nat_eq}
use Rattle.std.proofs.lemmas.Iterator.{YieldsList-from_slice}
use Rattle.std.proofs.lemmas.Iterator.Search.{position_from_yields_List}
use Rattle.line_format.specs.Bytes.{newline}
use Rattle.line_pending.proofs.Lent.{lent_rest}
use Rattle.line_pending.proofs.Ending.{end_some, end_past}
use Rattle.line_pending.proofs.line_end.Goals as goal

pub returns-in-Some : goal.returns-in-Some
returns-in-Some c =
    let e = position_from_yields_List (λ b. nat_eq b newline) _ _ c.position.result c.position.ensures.ran (YieldsList-from_slice c.unwrap_or-rest.result.now cc) (λ x b q k. search (rules, tests)) in
    search (end_some, e, lent_rest, rules)

pub returns-in-None : goal.returns-in-None
returns-in-None c =
    let e = position_from_yields_List (λ b. nat_eq b newline) _ _ c.position.result c.position.ensures.ran (YieldsList-from_slice c.unwrap_or-rest.result.now cc) (λ x b q k. search (rules, tests)) in
    search (end_past, e, lent_rest, rules)
