-- `past_spaces` meets its contract.
use Rattle.std.proofs.Common.{◌∙◌, rules, tests, nat_eq, not}
use Rattle.std.proofs.lemmas.Iterator.{YieldsList-from_slice}
use Rattle.std.proofs.lemmas.Iterator.Search.{position_from_yields_List}
use Rattle.line_format.specs.Bytes.{space}
use Rattle.line_parse.proofs.columns.ColumnLaws.{past_all}
use Rattle.line_parse.proofs.columns.past_spaces.Goals as goal

pub returns-clause-rest : goal.returns-clause-rest
returns-clause-rest c =
    let e = position_from_yields_List (λ b. not (nat_eq b space)) _ _ c.position-from.result c.position-from.ensures.ran (YieldsList-from_slice c.past_eight-near.result.now cc) (λ x b q k. search (rules, tests)) in
    past_all c.past_eight-near.result.now e c.unwrap_or.ensures ∙ c.past_eight-near.ensures.same
