-- What a line says, as the line format sees it.
use Rattle.std.specs.Prelude as P
use Rattle.std.specs.Prelude.{ℕ, cond, List, take, ℤ, Result, Ok, Err, Some, None}
use Rattle.std.proofs.Math.Option.{Option, none, some}
use Rattle.rules.specs.Lists.{is_case, case_of}
use Rattle.line_format.specs.Lines.{Name, names, name_number, begins, arity, Said, says, faulty}
use Rattle.answers.specs.declared.Refusal.{Refusal}
use Rattle.answers.specs.View.{view_refusal}
use Rattle.calls.specs.declared.Call.{Call}
use Rattle.calls.specs.View.{view_call}

abbrev pub view_said : Result Call Refusal → Said
view_said (Ok c) = says (view_call c)
view_said (Err r) = faulty (view_refusal r)

-- the first n numbers
abbrev pub view_numbers : ℕ → P.Option (List ℤ) → Option (List ℤ)
view_numbers n None = none
view_numbers n (Some v) = some (take n v)

-- the call of a number, begin where there is none
abbrev pub named : ℕ → Name
named n = case_of name_number begins names n

abbrev pub arity_of : ℕ → Option ℕ
arity_of n = cond (is_case name_number names n) (some (arity (named n))) none
