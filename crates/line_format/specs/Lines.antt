-- What a line says: a call, or why it is refused before the plant is asked; and an answer's line.
use Rattle.std.specs.Prelude.{ℕ, suc, zero, cond, List, [], ◌++◌, ◌∷◌, map, drop, length, take, ltb, pos, ℤ}
use Rattle.std.proofs.Math.Option.{Option, none, some}
use Rattle.rules.specs.Lists.{is_case, case_of}
use Rattle.rules.specs.Refusals.{Refusal, refusal_number, out_of_range, bad_line}
use Rattle.rules.specs.Calls.{Pair, Call, Load, Map, Begin, Read, Change, Commit, Abandon, Advance, Take, Apply, Delete, Cut, Sweep, Store, Report, Answer, refused, fine}
use Rattle.line_format.specs.Bytes.{call_width, number_width}
use Rattle.line_format.specs.Columns.{natural_in, integer_in, column}

-- ── the calls by their numbers ──
pub data Name : Type 0 where
  loads maps begins reads changes commits abandons advances takes applies deletes cuts sweeps stores reports : Name

abbrev pub name_number : Name → ℕ
name_number loads = 1
name_number maps = 2
name_number begins = 3
name_number reads = 4
name_number changes = 5
name_number commits = 6
name_number abandons = 7
name_number advances = 8
name_number takes = 9
name_number applies = 10
name_number deletes = 11
name_number cuts = 12
name_number sweeps = 13
name_number stores = 14
name_number reports = 15

abbrev pub names : List Name
names = loads ∷ maps ∷ begins ∷ reads ∷ changes ∷ commits ∷ abandons ∷ advances ∷ takes ∷ applies ∷ deletes ∷ cuts ∷ sweeps ∷ stores ∷ reports ∷ []

-- how many numbers a call has
abbrev pub arity : Name → ℕ
arity loads = 4
arity maps = 10
arity begins = 0
arity reads = 2
arity changes = 5
arity commits = 1
arity abandons = 1
arity advances = 1
arity takes = 1
arity applies = 2
arity deletes = 1
arity cuts = 1
arity sweeps = 0
arity stores = 1
arity reports = 1

abbrev pub pair : ℤ → ℤ → Pair
pair d f = record { document = d; field = f }

-- the numbers of a line by their positions from 0
abbrev pub nth : List ℤ → ℕ → ℤ
nth [] n = pos 0
nth (z ∷ l) zero = z
nth (z ∷ l) (suc n) = nth l n

abbrev pub call_of : Name → (ℕ → ℤ) → Call
call_of loads z = Load (z 0) (z 1) (z 2) (z 3)
call_of maps z =
    Map (z 0) (z 1) (record { first = pair (z 2) (z 3); second = pair (z 4) (z 5); third = pair (z 6) (z 7); fourth = pair (z 8) (z 9) })
call_of begins z = Begin
call_of reads z = Read (z 0) (z 1)
call_of changes z = Change (z 0) (z 1) (z 2) (z 3) (z 4)
call_of commits z = Commit (z 0)
call_of abandons z = Abandon (z 0)
call_of advances z = Advance (z 0)
call_of takes z = Take (z 0)
call_of applies z = Apply (z 0) (z 1)
call_of deletes z = Delete (z 0)
call_of cuts z = Cut (z 0)
call_of sweeps z = Sweep
call_of stores z = Store (z 0)
call_of reports z = Report (z 0)

-- ── reading a line ──
pub data Said : Type 0 where
  says : Call → Said
  faulty : Refusal → Said

-- one number more before others, if all are in form
abbrev pub joined : Option ℤ → Option (List ℤ) → Option (List ℤ)
joined none l = none
joined (some z) none = none
joined (some z) (some l) = some (z ∷ l)

-- just n numbers of twelve columns
abbrev pub numbers_in : ℕ → List ℕ → Option (List ℤ)
numbers_in zero [] = some []
numbers_in zero (b ∷ l) = none
numbers_in (suc n) l = cond (ltb (length l) number_width) none (joined (integer_in (take number_width l)) (numbers_in n (drop number_width l)))

-- the call column; a line of one byte has none
abbrev pub call_in : List ℕ → Option ℕ
call_in l = cond (ltb (length l) call_width) none (natural_in (take call_width l))

abbrev pub with_numbers : Name → Option (List ℤ) → Said
with_numbers c none = faulty bad_line
with_numbers c (some l) = says (call_of c (nth l))

-- an unknown call is out of range, whatever follows it
abbrev pub with_call : Option ℕ → List ℕ → Said
with_call none l = faulty bad_line
with_call (some n) l =
    cond (is_case name_number names n) (with_numbers (case_of name_number begins names n) (numbers_in (arity (case_of name_number begins names n)) l)) (faulty out_of_range)

unfoldable pub said : List ℕ → Said
said l = with_call (call_in l) (drop call_width l)

-- ── writing an answer ──
abbrev pub columns : List ℤ → List ℕ
columns [] = []
columns (z ∷ l) = column number_width z ++ columns l

-- the refusal, or 0 and the answer's numbers, a read's with the words shown
unfoldable pub answer_line : Answer → List ℤ → List ℕ
answer_line (refused r) shown = column call_width (pos (refusal_number r))
answer_line (fine ns) shown = column call_width (pos 0) ++ columns (map pos ns ++ shown)
