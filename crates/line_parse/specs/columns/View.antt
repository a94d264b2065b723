-- An optional value, as the line format sees it.
use Rattle.std.specs.Prelude as P
use Rattle.std.specs.Prelude.{Some, None}
use Rattle.std.proofs.Math.Option.{Option, none, some}

abbrev pub view_option : {A : Type 0} → P.Option A → Option A
view_option None = none
view_option (Some a) = some a
