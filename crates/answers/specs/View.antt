-- Answers as the rules see them. The rules give each its numbers: `refusal_number`, `mark_number`, `reply_number`.
use Rattle.std.specs.Prelude.{Bool, false, true, List, [], ◌∷◌, ℕ, Result, Ok, Err}
use Rattle.std.proofs.Math.Option.{Option, none, some}
use Rattle.rules.specs.Lists.{bit}
use Rattle.rules.specs.Refusals as R
use Rattle.rules.specs.Calls as C
use Rattle.answers.specs.declared.Refusal.{Refusal}
use Rattle.answers.specs.declared.Refusal.TheVariants.{OutOfRange, NoSlot, WasDoomed, ExclusiveElsewhere, ChangesFull, WrongKind, SeventhMember, SumTooLarge, KeyUndefined, SlotsFull, NumbersSpent, SessionBegun, KeyDefined, BadPlaces, BufferFull, QueueLeased, WrongHand, NothingBuffered, RowsFull, StoreAway, ClockEnd, FewWords, BadLine}
use Rattle.answers.specs.declared.Mark.{Mark}
use Rattle.answers.specs.declared.Mark.TheVariants as mark
use Rattle.answers.specs.declared.Reply.{Reply}
use Rattle.answers.specs.declared.Reply.TheVariants as reply
use Rattle.answers.specs.declared.Answer.{Answer}
use Rattle.answers.specs.declared.Answer.TheVariants.{Done, Begun, Read, Changed, Committed, Advanced, Taken, Applied, Deleted, Swept, Reported}

abbrev pub view_refusal : Refusal → R.Refusal
view_refusal OutOfRange = R.out_of_range
view_refusal NoSlot = R.no_slot
view_refusal WasDoomed = R.was_doomed
view_refusal ExclusiveElsewhere = R.exclusive_elsewhere
view_refusal ChangesFull = R.changes_full
view_refusal WrongKind = R.wrong_kind
view_refusal SeventhMember = R.seventh_member
view_refusal SumTooLarge = R.sum_too_large
view_refusal KeyUndefined = R.key_undefined
view_refusal SlotsFull = R.slots_full
view_refusal NumbersSpent = R.numbers_spent
view_refusal SessionBegun = R.session_begun
view_refusal KeyDefined = R.key_defined
view_refusal BadPlaces = R.bad_places
view_refusal BufferFull = R.buffer_full
view_refusal QueueLeased = R.queue_leased
view_refusal WrongHand = R.wrong_hand
view_refusal NothingBuffered = R.nothing_buffered
view_refusal RowsFull = R.rows_full
view_refusal StoreAway = R.store_away
view_refusal ClockEnd = R.clock_end
view_refusal FewWords = R.few_words
view_refusal BadLine = R.bad_line

abbrev pub view_mark : Mark → C.Mark
view_mark mark.FromCache = C.from_cache
view_mark mark.CachedNow = C.cached_now
view_mark mark.OwnChange = C.own_change

abbrev pub view_reply : Reply → C.Reply
view_reply reply.NoWord = C.no_word
view_reply reply.Done = C.done
view_reply reply.DoneBefore = C.done_before

-- what is told, in the order of the answer line
abbrev pub told : Answer → List ℕ
told Done = []
told (Begun n) = n ∷ []
told (Read m) = C.mark_number (view_mark m) ∷ []
told (Changed n) = n ∷ []
told (Committed n) = n ∷ []
told (Advanced t) = t ∷ []
told (Taken n) = n ∷ []
told (Applied r) = C.reply_number (view_reply r) ∷ []
told (Deleted b) = bit b ∷ []
told (Swept n) = n ∷ []
told (Reported a b c) = a ∷ b ∷ c ∷ []

abbrev pub view_answer : Result Answer Refusal → C.Answer
view_answer (Ok a) = C.fine (told a)
view_answer (Err r) = C.refused (view_refusal r)

-- the refusal that is met, if any
abbrev pub refusal_met : {A : Type 0} → Result A Refusal → Option R.Refusal
refusal_met (Ok a) = none
refusal_met (Err r) = some (view_refusal r)

-- the answer by a refusal, or by none: then these numbers are told
abbrev pub answer_by : Option R.Refusal → List ℕ → C.Answer
answer_by none ns = C.fine ns
answer_by (some r) ns = C.refused r

abbrev pub is_refused : C.Answer → Bool
is_refused (C.refused r) = true
is_refused (C.fine ns) = false

-- a refusal that ends the session that met it
abbrev pub is_ending : C.Answer → Bool
is_ending (C.refused r) = R.ends_session r
is_ending (C.fine ns) = false
