-- The invariant of the loop of `natural`.
use Rattle.std.proofs.Common.{◌≡◌, ◌<◌, ◌^◌, drop}
use Rattle.line_format.specs.Bytes.{base}
use Rattle.line_format.specs.Columns.{natural}
use Rattle.line_parse.proofs.columns.ColumnLaws.{after}
use Rattle.line_parse.proofs.columns.natural.Given as goal

abbrev pub invariant-loop-b : goal.invariant-loop-b
invariant-loop-b l = record { rest : natural l.digits ≡ after l.value (drop l.b-index l.digits); small : l.value < base ^ l.b-index }
