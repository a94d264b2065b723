-- The bytes kept of a line that is not ended yet, for every value of the struct, and the end of a line in a piece of input.
use Rattle.std.specs.Prelude.{◌-◌, ℕ, Bool, List, drop, length, take, eqb, leb}
use Rattle.lists.specs.Find.{first_at}
use Rattle.line_format.specs.Bytes.{line_limit, newline}
use Rattle.line_pending.specs.declared.Pending.{Pending}

unfoldable pub view_pending : Pending → List ℕ
view_pending t = take t.len t.line

-- as many bytes as the struct says
unfoldable pub pending_form : Pending → Bool
pending_form t = leb t.len line_limit

-- the position of the first byte 10 at or after a position, or the length of the piece
unfoldable pub end_from : ℕ → List ℕ → ℕ
end_from from l = first_at (λ b. eqb b newline) (length l) from (drop from l)

-- the bytes of a piece from one position up to another
abbrev pub between : ℕ → ℕ → List ℕ → List ℕ
between from to l = take (to - from) (drop from l)
