-- A number in its columns: decimal, right-justified, spaces before, a minus directly before the digits, no leading zeros, no "-0".
use Rattle.std.specs.Prelude.{◌*◌, ◌+◌, ◌-◌, ◌/◌, ◌%◌, suc, zero, ℕ, Bool, ◌&&◌, cond, false, not, true, List, [], ◌++◌, ◌∷◌, replicate, eqb, leb, ltb, negsuc, pos, ℤ}
use Rattle.std.proofs.Math.Option.{Option, none, some}
use Rattle.rules.specs.Lists.{all}
use Rattle.line_format.specs.Bytes.{space, minus, digit_zero, digit_nine, base}

-- ── reading ──
abbrev pub is_digit : ℕ → Bool
is_digit b = leb digit_zero b && leb b digit_nine

-- at least one digit, and no leading zero
abbrev pub are_digits : List ℕ → Bool
are_digits [] = false
are_digits (b ∷ []) = is_digit b
are_digits (b ∷ c ∷ l) = is_digit b && not (eqb b digit_zero) && all is_digit (c ∷ l)

-- the number whose digits follow those of n
abbrev pub value_after : ℕ → List ℕ → ℕ
value_after n [] = n
value_after n (b ∷ l) = value_after (n * base + (b - digit_zero)) l

abbrev pub natural : List ℕ → Option ℕ
natural l = cond (are_digits l) (some (value_after 0 l)) none

abbrev pub plain : Option ℕ → Option ℤ
plain none = none
plain (some n) = some (pos n)

-- "-0" is no number
abbrev pub negative : Option ℕ → Option ℤ
negative none = none
negative (some zero) = none
negative (some (suc n)) = some (negsuc n)

abbrev pub integer : List ℕ → Option ℤ
integer [] = none
integer (b ∷ l) = cond (eqb b minus) (negative (natural l)) (plain (natural (b ∷ l)))

-- without the spaces before
abbrev pub trimmed : List ℕ → List ℕ
trimmed [] = []
trimmed (b ∷ l) = cond (eqb b space) (trimmed l) (b ∷ l)

-- what columns say: a number without minus; any number
unfoldable pub natural_in : List ℕ → Option ℕ
natural_in l = natural (trimmed l)

unfoldable pub integer_in : List ℕ → Option ℤ
integer_in l = integer (trimmed l)

-- ── writing ──
abbrev pub is_negative : ℤ → Bool
is_negative (pos n) = false
is_negative (negsuc n) = true

abbrev pub magnitude : ℤ → ℕ
magnitude (pos n) = n
magnitude (negsuc n) = suc n

-- the columns before the first digit: spaces, the last of them a minus for a negative number
abbrev pub before : Bool → ℕ → List ℕ
before negative zero = []
before negative (suc w) = replicate w space ++ (cond negative minus space ∷ [])

-- w columns with the last w digits of n
abbrev pub digits_in : Bool → ℕ → ℕ → List ℕ
digits_in negative zero n = []
digits_in negative (suc w) n = cond (ltb n base) (before negative w) (digits_in negative w (n / base)) ++ ((digit_zero + n % base) ∷ [])

-- a number in w columns
unfoldable pub column : ℕ → ℤ → List ℕ
column w z = digits_in (is_negative z) w (magnitude z)
