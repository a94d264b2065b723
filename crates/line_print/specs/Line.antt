-- The line of what is told and of words, and the bytes that it takes.
use Rattle.std.specs.Prelude.{ℕ, ◌+◌, ◌*◌, cond, List, ◌++◌, map, length, take, leb, pos, ℤ}
use Rattle.rules.specs.Limits.{place_limit, words_per_field}
use Rattle.line_format.specs.Bytes.{call_width, number_width}
use Rattle.line_format.specs.Columns.{column}
use Rattle.line_format.specs.Lines.{columns}
use Rattle.line_format.specs.Serving.{ended}
use Rattle.line_print.specs.told.Told.{number_limit}
use Rattle.line_print.specs.declared.told.Told.{Told}

-- with so many numbers and words, byte 10 with them
abbrev pub line_width : ℕ → ℕ → ℕ
line_width count n = call_width + number_width * count + number_width * n + 1

-- the longest: a read lends the words of the longest key
abbrev pub longest : ℕ
longest = line_width number_limit (words_per_field * place_limit)

abbrev pub line_of : Told → List ℤ → List ℕ
line_of t ws = ended ((column call_width (pos t.refusal) ++ columns (map pos (take t.count t.numbers))) ++ columns ws)

-- the bytes that a printed line takes: none where too few are lent
unfoldable pub taken : List ℕ → List ℕ → ℕ
taken bs lent = cond (leb (length bs) (length lent)) (length bs) 0
