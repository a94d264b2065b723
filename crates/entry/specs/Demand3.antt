-- Demand 3 of the code: after every list of calls that are run through the entry from the empty plant, whatever the arguments and the words
-- lent, demand 3 holds of the plant left behind. Its proof is proofs/Demand3, from the rules' theorem and the entry's promise alone.
use Rattle.std.specs.Prelude.{◌<◌, ℕ, ◌≡◌, true, List, [], ◌++◌, ◌∷◌, map, length, ℤ, Result}
use Rattle.rules.specs.Lists.{all}
use Rattle.rules.specs.Limits.{worker_count}
use Rattle.rules.specs.Tables as M
use Rattle.rules.specs.Calls as C
use Rattle.rules.specs.History.{History, empty_history, note_answer, whole_history, Turn, Exchange}
use Rattle.rules.specs.Demand3.{FirstPart, CommitOrder, AllRight, Preparation, preparing, Prepares, rounds, is_fine}
use Rattle.plant.specs.View.{view_plant, kept_plant}
use Rattle.plant.specs.declared.Plant.{Plant}
use Rattle.answers.specs.View.{view_answer}
use Rattle.answers.specs.declared.Answer.{Answer}
use Rattle.answers.specs.declared.Refusal.{Refusal}
use Rattle.calls.specs.View.{view_call}
use Rattle.calls.specs.declared.Call.{Call}
use Rattle.entry.specs.Ran.{Ran}

-- ── lists of calls ──
-- a call, the words lent to it, and what the entry gave: the answer, the words and the plant left
pub record Event : Type 0 where
  pub call : Call
  pub lent : List ℤ
  pub answer : Result Answer Refusal
  pub words : List ℤ
  pub plant : Plant

-- each call gets the plant that the call before left, and the entry's promise holds of each
abbrev pub Runs : Plant → List Event → Type 0
Runs p [] = Unit {0}
Runs p (e ∷ es) = (kept_plant p ≡ true → Ran e.call e.lent p e.answer e.words e.plant) × Runs e.plant es

abbrev pub left : Plant → List Event → Plant
left p [] = p
left p (e ∷ es) = left e.plant es

-- the history, from calls and answers alone
abbrev pub noted : List Event → History → History
noted [] h = h
noted (e ∷ es) h = noted es (note_answer (view_call e.call) (view_answer e.answer) e.words h)

abbrev pub calls_of : List Event → List C.Call
calls_of = map (λ e. view_call e.call)

-- the rules' turns that they are
abbrev pub turns_of : List Event → List Turn
turns_of = map (λ e. record { call = view_call e.call; lent = e.lent })

-- calls with their answers
abbrev pub exchanges_of : List Event → List Exchange
exchanges_of = map (λ e. record { call = view_call e.call; answer = view_answer e.answer })

-- ── the drain ──
-- any one worker is cut, the clock has 300 ticks left and moves by them, the store is near, and the worker makes four calls for each buffered page
abbrev pub Drains : Plant → History → Type 0
Drains p h =
    (v : ℕ) → v < worker_count → (l : List Preparation) → Prepares (view_plant p) l
    → (es : List Event) → calls_of es ≡ map (preparing v) l ++ rounds v (length h.buffered) → Runs p es
    → (all (λ e. is_fine (view_answer e.answer)) es ≡ true) × (((view_plant (left p es)).buffer ≡ []) × ((view_plant (left p es)).store ≡ whole_history (noted es h)))

-- ── the claim ──
pub record Holds (p : Plant) (h : History) : Type 0 where
  pub first_part : FirstPart h (view_plant p).store
  pub buffer : M.numbers_of (view_plant p).buffer ≡ h.buffered
  pub commit_order : CommitOrder h
  pub as_alone : AllRight h.start h.commits
  pub drains : Drains p h

-- `Plant::empty()` promises both premises on the first plant
abbrev pub Demand3 : Type 0
Demand3 = (p : Plant) → view_plant p ≡ M.setup → kept_plant p ≡ true → (es : List Event) → Runs p es → Holds (left p es) (noted es empty_history)
