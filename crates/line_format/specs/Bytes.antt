-- The bytes and widths of the line format, each by its name.
use Rattle.std.specs.Prelude.{◌*◌, ◌+◌, ℕ}

abbrev pub newline : ℕ
newline = 10

abbrev pub space : ℕ
space = 32

abbrev pub minus : ℕ
minus = 45

-- the digits '0' to '9'
abbrev pub digit_zero : ℕ
digit_zero = 48

abbrev pub digit_nine : ℕ
digit_nine = 57

abbrev pub base : ℕ
base = 10

-- columns of the call, and of a refusal or 0
abbrev pub call_width : ℕ
call_width = 2

-- columns of every other number
abbrev pub number_width : ℕ
number_width = 12

-- numbers of the call that has most, map
abbrev pub most_numbers : ℕ
most_numbers = 10

-- bytes of a line that tell what it says: those of the longest line in form, and one more, which tells that a line is too long
abbrev pub line_limit : ℕ
line_limit = call_width + most_numbers * number_width + 1
