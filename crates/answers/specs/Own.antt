-- Which answers are a call's own, by the paper's numbers of the calls: a refusal, or the one that is named for the call. The rules see an
-- answer's numbers alone, and there a 5 may be a session's number as well as a count.
use Rattle.std.specs.Prelude.{Bool, true, [], ◌∷◌, eqb, Result, Ok, Err}
use Rattle.rules.specs.Lists.{has}
use Rattle.rules.specs.Calls as C
use Rattle.answers.specs.declared.Refusal.{Refusal}
use Rattle.answers.specs.declared.Answer.{Answer}
use Rattle.answers.specs.declared.Answer.TheVariants.{Done, Begun, Read, Changed, Committed, Advanced, Taken, Applied, Deleted, Swept, Reported}

abbrev pub is_answer_of : C.Call → Result Answer Refusal → Bool
is_answer_of c (Err r) = true
is_answer_of c (Ok Done) = has (C.call_number c) (1 ∷ 2 ∷ 7 ∷ 12 ∷ 14 ∷ [])
is_answer_of c (Ok (Begun n)) = eqb (C.call_number c) 3
is_answer_of c (Ok (Read m)) = eqb (C.call_number c) 4
is_answer_of c (Ok (Changed n)) = eqb (C.call_number c) 5
is_answer_of c (Ok (Committed n)) = eqb (C.call_number c) 6
is_answer_of c (Ok (Advanced t)) = eqb (C.call_number c) 8
is_answer_of c (Ok (Taken n)) = eqb (C.call_number c) 9
is_answer_of c (Ok (Applied r)) = eqb (C.call_number c) 10
is_answer_of c (Ok (Deleted b)) = eqb (C.call_number c) 11
is_answer_of c (Ok (Swept n)) = eqb (C.call_number c) 13
is_answer_of c (Ok (Reported a b d)) = eqb (C.call_number c) 15
