-- The invariant of demand 3: what links the history and the plant, beside the rules that the plant keeps (Kept).
use Prim.Native.Nat.{◌<◌, ℕ}
use mathlib.Core.Path.{◌≡◌}
use mathlib.Core.Bool.{false, true}
use mathlib.Core.List.{List, [], ◌++◌, ◌∷◌}
-- the worked runs come first: a definition that is off shows there before it shows in a law
use Rattle.rules.proofs.Worked.{worked_runs}
use Rattle.rules.specs.Lists.{is_empty}
use Rattle.rules.specs.Limits.{worker_count}
use Rattle.rules.specs.Values.{Place, Stock}
use Rattle.rules.specs.Changes.{Update, follow}
use Rattle.rules.specs.Tables.{Lease, is_held, is_exclusive, Session, session, Batch, numbers_of, pending, Hand, full, handed, Plant}
use Rattle.rules.specs.Calls.{done}
use Rattle.rules.specs.Conditions.{ever_begun}
use Rattle.rules.specs.History.{saw, wrote, Page, changes_of, changes_nothing, Committed, History, whole, whole_history}
use Rattle.rules.specs.Demand3.{Right, AllRight}

-- the pages left, worked at a stock, owe these batches: a quiet page changes nothing there, any other does what its batch does
pub record Owed (S : Stock) (x : Committed) (b : Batch) : Type 0 where
  pub number : b.number ≡ x.number
  pub loud : changes_nothing x.page ≡ false
  pub does : follow S b.changes ≡ follow S (changes_of x.page)

pub data Owes : Stock → List Committed → List Batch → Type 0 where
  none_owed : {S : Stock} → Owes S [] []
  skips : {S : Stock} {x : Committed} {l : List Committed} {bs : List Batch} → changes_nothing x.page ≡ true → follow S (changes_of x.page) ≡ S
      → Owes S l bs → Owes S (x ∷ l) bs
  owes : {S : Stock} {x : Committed} {l : List Committed} {b : Batch} {bs : List Batch} → Owed S x b → Owes (follow S (changes_of x.page)) l bs
      → Owes S (x ∷ l) (b ∷ bs)

pub record Workers (start : Stock) (commits : List Committed) (buffered : List ℕ) (noted : ℕ → ℕ) (store : Stock) (buffer : List Batch)
    (rows : List ℕ) (hands : ℕ → Hand) : Type 0 where
  pub done : List Committed
  pub left : List Committed
  pub split : commits ≡ done ++ left
  pub stock : store ≡ follow start (whole done)
  pub owed : Owes store left (pending rows buffer)
  pub names : numbers_of buffer ≡ buffered
  pub hand : (w : ℕ) → w < worker_count → full (hands w) ≡ true → noted w ≡ handed (hands w)

-- every document of a page is held by the session, those of its changes exclusively
abbrev pub HeldAll : (ℕ → Lease) → List Place → Type 0
HeldAll lease [] = Unit {0}
HeldAll lease (q ∷ l) = (is_held (lease q.document) ≡ true) × HeldAll lease l

abbrev pub Held : (ℕ → Lease) → Page → Type 0
Held lease [] = Unit {0}
Held lease (saw qs ws ∷ l) = HeldAll lease qs × Held lease l
Held lease (wrote c ∷ l) = (is_exclusive (lease c.at.document) ≡ true) × Held lease l

abbrev pub AllEx : (ℕ → Lease) → List Update → Type 0
AllEx lease [] = Unit {0}
AllEx lease (c ∷ l) = (is_exclusive (lease c.at.document) ≡ true) × AllEx lease l

pub record Live (now : Stock) (page : Page) (s : Session) : Type 0 where
  pub right : Right now page
  pub same : (q : Place) → follow now (changes_of page) q ≡ follow now s.changes q
  pub silent : changes_nothing page ≡ is_empty s.changes
  pub mine : AllEx s.lease s.changes
  pub held : Held s.lease page

pub record Sessions (now : Stock) (page : ℕ → Page) (look : ℕ → Session) : Type 0 where
  pub live : (n : ℕ) → (look n).doomed ≡ false → Live now (page n) (look n)
  pub apart : (n m d : ℕ) → (n ≡ m → ⊥) → is_exclusive ((look n).lease d) ≡ true → is_held ((look m).lease d) ≡ false

pub record Inv (h : History) (p : Plant) : Type 0 where
  pub workers : Workers h.start h.commits h.buffered h.noted p.store p.buffer p.rows p.hands
  pub alone : AllRight h.start h.commits
  pub sessions : Sessions (whole_history h) h.page (λ n. session n p.slots)
  pub keys : h.keys ≡ p.keys
  -- before the first session nothing is committed
  pub early : ever_begun p ≡ false → h.commits ≡ []
