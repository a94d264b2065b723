-- What an answer tells on its line: the refusal or 0, the numbers and the words.
use Rattle.std.specs.Prelude.{◌≡◌, ℕ, ◌≤◌, List, [], length, take, ℤ}
use Rattle.rules.specs.Refusals.{refusal_number}
use Rattle.rules.specs.Calls.{Answer, refused, fine}
use Rattle.line_print.specs.declared.told.Told.{Told}

abbrev pub refusal_in : Answer → ℕ
refusal_in (refused r) = refusal_number r
refusal_in (fine ns) = 0

abbrev pub numbers_in : Answer → List ℕ
numbers_in (refused r) = []
numbers_in (fine ns) = ns

-- an answer tells at most three numbers
abbrev pub number_limit : ℕ
number_limit = 3

pub record Tells (a : Answer) (t : Told) : Type 0 where
  pub few : t.count ≤ number_limit
  pub refusal : t.refusal ≡ refusal_in a
  pub count : t.count ≡ length (numbers_in a)
  pub numbers : take t.count t.numbers ≡ numbers_in a

-- n of the words ws stand on the line where the caller asks for `shown`; with a refusal none
abbrev pub words_in : Answer → List ℤ → List ℤ
words_in (refused r) ws = []
words_in (fine ns) ws = ws

pub record Shows (a : Answer) (ws : List ℤ) (shown n : ℕ) : Type 0 where
  pub few : n ≤ length ws
  pub words : take n ws ≡ words_in a (take shown ws)
