-- Demands 1 and 2 of the code: what a refused call leaves of the plant itself and of the caller's memory, what an answered read shows after any
-- list of calls, and what a commit leaves. Each plant that calls from set-up leave keeps the rules (`Ran.keeps`). Their proofs are proofs/Demands,
-- from the rules' theorem and the entry's promise alone.
use Rattle.std.specs.Prelude.{ℕ, ◌≡◌, false, true, List, ℤ, Result}
use Rattle.rules.specs.Values.{nat_of}
use Rattle.rules.specs.Refusals as R
use Rattle.rules.specs.Tables as M
use Rattle.rules.specs.Calls.{refused, fine}
use Rattle.rules.specs.History.{empty_history}
use Rattle.rules.specs.Claims.{ShownBy}
use Rattle.sessions.specs.View.{view_sessions}
use Rattle.plant.specs.View.{view_plant, kept_plant}
use Rattle.plant.specs.With.{with_sessions}
use Rattle.plant.specs.declared.Plant.{Plant}
use Rattle.answers.specs.View.{view_answer}
use Rattle.answers.specs.declared.Answer.{Answer}
use Rattle.answers.specs.declared.Refusal.{Refusal}
use Rattle.calls.specs.declared.Call.{Call}
use Rattle.calls.specs.declared.Call.TheVariants.{Read, Change, Commit, Abandon, Report}
use Rattle.entry_parts.specs.Session.{has_session}
use Rattle.entry.specs.Ran.{Ran}
use Rattle.entry.specs.Demand3.{Event, Runs, left, noted}

-- ── demand 1 ──
-- what holds of the words lent, the plant, and the words and the plant left, wherever the call is refused so
abbrev pub WhereRefused : Call → R.Refusal → (List ℤ → Plant → List ℤ → Plant → Type 0) → Type 0
WhereRefused c r Holds =
    (lent : List ℤ) (p : Plant) (a : Result Answer Refusal) (words : List ℤ) (q : Plant) → kept_plant p ≡ true → Ran c lent p a words q
    → view_answer a ≡ refused r → Holds lent p words q

abbrev pub Unchanged : Type 0
Unchanged = (c : Call) (r : R.Refusal) → (r ≡ R.was_doomed → ⊥) → (r ≡ R.exclusive_elsewhere → ⊥) → WhereRefused c r (λ lent p words q. (q ≡ p) × (words ≡ lent))

-- without the session of that number, and all other tables the very same
pub record Without (s : ℤ) (lent : List ℤ) (p : Plant) (words : List ℤ) (q : Plant) : Type 0 where
  pub others : q ≡ with_sessions p q.sessions
  pub sessions : view_sessions q.sessions ≡ M.freed (nat_of s) (view_sessions p.sessions)
  pub memory : words ≡ lent

abbrev pub Ends : R.Refusal → Call → ℤ → Type 0
Ends r c s = WhereRefused c r (Without s)

-- of a call that is no session's
abbrev pub Never : R.Refusal → Type 0
Never r = (c : Call) → has_session c ≡ false → WhereRefused c r (λ lent p words q. ⊥)

pub record EndsSession (r : R.Refusal) : Type 0 where
  pub read : (s k : ℤ) → Ends r (Read s k) s
  pub change : (s d f k v : ℤ) → Ends r (Change s d f k v) s
  pub commit : (s : ℤ) → Ends r (Commit s) s
  pub abandon : (s : ℤ) → Ends r (Abandon s) s
  pub report : (s : ℤ) → Ends r (Report s) s
  -- no other call is refused so
  pub others : Never r

-- a refused call leaves the plant and the caller's memory unchanged, except that refusals 3 and 4 end the session that met them
pub record Demand1 : Type 0 where
  pub unchanged : Unchanged
  pub three_ends : EndsSession R.was_doomed
  pub four_ends : EndsSession R.exclusive_elsewhere

-- ── demand 2 ──
-- an answered read, cached or not, shows the starting stock with all committed sessions in commit order and then its own changes, after every list of
-- calls from the empty plant; the words past these are untouched
abbrev pub ReadsShow : Type 0
ReadsShow =
    (p : Plant) → view_plant p ≡ M.setup → kept_plant p ≡ true → (es : List Event) → Runs p es
    → (s k : ℤ) (lent : List ℤ) (a : Result Answer Refusal) (words : List ℤ) (q : Plant) → Ran (Read s k) lent (left p es) a words q
    → (ns : List ℕ) → view_answer a ≡ fine ns → words ≡ ShownBy (noted es empty_history) s k lent

-- a commit, refused or not, does not touch the store: the fields and the rows are the very same
abbrev pub CommitLeavesStore : Type 0
CommitLeavesStore =
    (s : ℤ) (lent : List ℤ) (p : Plant) (a : Result Answer Refusal) (words : List ℤ) (q : Plant) → kept_plant p ≡ true → Ran (Commit s) lent p a words q
    → (q.store ≡ p.store) × (q.rows ≡ p.rows)

pub record Demand2 : Type 0 where
  pub reads_show : ReadsShow
  pub commit_leaves_store : CommitLeavesStore
