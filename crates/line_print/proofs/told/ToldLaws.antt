-- What an answer tells: at most three numbers, and at most the words that there are.
use mathlib.Core.List.{List}
use Prim.Native.Nat.{◌≤◌}
use native.Mathlib.Omega.{arith}
use lib.IntN.{ℤ}
use lib.ListN.{length}
use Rattle.rules.specs.Calls as C
use Rattle.answers.specs.View.{view_answer}
use Rattle.std.specs.Prelude.{Result, Ok, Err}
use Rattle.answers.specs.declared.Answer.{Answer}
use Rattle.answers.specs.declared.Refusal.{Refusal}
use Rattle.answers.specs.declared.Answer.TheVariants as variant
use Rattle.line_print.specs.told.Told.{numbers_in, number_limit, words_in}

pub numbers_few : (a : Result Answer Refusal) → length (numbers_in (view_answer a)) ≤ number_limit
numbers_few (Err r) = omega arith
numbers_few (Ok variant.Done) = omega arith
numbers_few (Ok (variant.Begun n)) = omega arith
numbers_few (Ok (variant.Read m)) = omega arith
numbers_few (Ok (variant.Changed n)) = omega arith
numbers_few (Ok (variant.Committed n)) = omega arith
numbers_few (Ok (variant.Advanced t)) = omega arith
numbers_few (Ok (variant.Taken n)) = omega arith
numbers_few (Ok (variant.Applied r)) = omega arith
numbers_few (Ok (variant.Deleted b)) = omega arith
numbers_few (Ok (variant.Swept n)) = omega arith
numbers_few (Ok (variant.Reported s x c)) = omega arith

pub words_few : (a : C.Answer) (ws : List ℤ) → length (words_in a ws) ≤ length ws
words_few (C.refused r) ws = omega arith
words_few (C.fine ns) ws = omega arith
