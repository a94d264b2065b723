-- A recalled lot leaves the tally whole: what is claimed of a pull, by a load and by a session, and of what reads show and the store holds then.
use Rattle.std.specs.Prelude.{ℕ, ◌≡◌, Bool, ◌&&◌, ◌||◌, false, List, [], ◌++◌, ◌∷◌, pos, ℤ}
use Rattle.rules.specs.Lists.{any, same_case}
use Rattle.rules.specs.Refusals.{wrong_kind}
use Rattle.rules.specs.Values.{eq_z, nat_of, Place, same_place, Field, absent, number, list, Stock}
use Rattle.rules.specs.Changes.{Kind, add, push, pull, kind_number, Update, Outcome, becomes, fails, member, change, place_of, update_of}
use Rattle.rules.specs.Tables.{Plant}
use Rattle.rules.specs.Reading.{seen}
use Rattle.rules.specs.Calls.{Call, Load, Map, Begin, Read, Change, Commit, Abandon, Advance, Take, Apply, Delete, Cut, Sweep, Store, Report, Answer, refused, fine}
use Rattle.rules.specs.Conditions.{own}
use Rattle.rules.specs.Step.{step}
use Rattle.rules.specs.History.{changes_of, History, whole, Turn, turns, initial, left_by, Exchange, exchanges}
use Rattle.rules.specs.Claims.{shown_to}
use Rattle.rules.specs.Demand3.{FirstPart}

-- ── of one pull ──
-- m is l without the members that equal v: each of these goes, and every other stays, in their order
abbrev pub Without : ℤ → List ℤ → List ℤ → Type 0
Without v [] m = m ≡ []
Without v (w ∷ l) m = (w ≡ v → Without v l m) × ((w ≡ v → ⊥) → (n : List ℤ) × (m ≡ w ∷ n) × Without v l n)

-- there is one such list
abbrev pub OneWithout : Type 0
OneWithout = (v : ℤ) (l m n : List ℤ) → Without v l m → Without v l n → m ≡ n

-- what becomes of a field: absent stays absent, a number refuses, and a list is one still, be it empty
abbrev pub Pulls : ℤ → Field → Outcome → Type 0
Pulls v absent o = o ≡ becomes absent
Pulls v (number z) o = o ≡ fails wrong_kind
Pulls v (list l) o = (m : List ℤ) × (o ≡ becomes (list m)) × Without v l m

-- a pull makes that of every field
abbrev pub PullsAll : Type 0
PullsAll = (v : ℤ) (f : Field) → Pulls v f (change pull v f)

-- so it is in the store, for a load, on any plant
abbrev pub LoadPulls : Type 0
LoadPulls =
    (d f v : ℤ) (lent : List ℤ) (p : Plant) (ns : List ℕ) → (step (Load d f (pos (kind_number pull)) v) lent p).answer ≡ fine ns
    → Pulls v (p.store (place_of d f)) (becomes ((step (Load d f (pos (kind_number pull)) v) lent p).plant.store (place_of d f)))

-- and in what a session sees, for a change
abbrev pub ChangePulls : Type 0
ChangePulls =
    (s d f v : ℤ) (lent : List ℤ) (p : Plant) (ns : List ℕ) → (step (Change s d f (pos (kind_number pull)) v) lent p).answer ≡ fine ns
    → Pulls v (seen p (own s p) (place_of d f))
    (becomes (seen (step (Change s d f (pos (kind_number pull)) v) lent p).plant (own s (step (Change s d f (pos (kind_number pull)) v) lent p).plant) (place_of d f)))

-- ── a withdrawn lot ──
-- v is no member of the field; only lists have members
abbrev pub Lacks : ℤ → Field → Type 0
Lacks v absent = Unit {0}
Lacks v (number z) = Unit {0}
Lacks v (list l) = member v l ≡ false

-- an add or a push puts its value at its place
abbrev pub is_put : Kind → Bool
is_put k = same_case kind_number k add || same_case kind_number k push

abbrev pub puts : Place → ℤ → Update → Bool
puts q v c = same_place q c.at && is_put c.kind && eq_z c.value v

-- v was pulled from q, and no later change puts it there
pub record Withdrawn (q : Place) (v : ℤ) (cs : List Update) : Type 0 where
  pub before : List Update
  pub later : List Update
  pub pulled : cs ≡ before ++ (record { at = q; kind = pull; value = v } ∷ later)
  pub not_put : any (puts q v) later ≡ false

-- a stock lacks, at its place, each lot that changes withdrew
abbrev pub LacksAll : List Update → Stock → Type 0
LacksAll cs stock = (q : Place) (v : ℤ) → Withdrawn q v cs → Lacks v (stock q)

-- ── after every list of calls ──
-- the changes of accepted loads, in their order
abbrev pub load_in : Call → List Update
load_in (Load d f k v) = update_of (place_of d f) (nat_of k) v ∷ []
load_in (Map k n m) = []
load_in Begin = []
load_in (Read s k) = []
load_in (Change s d f k v) = []
load_in (Commit s) = []
load_in (Abandon s) = []
load_in (Advance n) = []
load_in (Take w) = []
load_in (Apply w fate) = []
load_in (Delete w) = []
load_in (Cut w) = []
load_in Sweep = []
load_in (Store n) = []
load_in (Report s) = []

abbrev pub load_by : Call → Answer → List Update
load_by c (refused r) = []
load_by c (fine ns) = load_in c

abbrev pub loads_of : List Exchange → List Update
loads_of [] = []
loads_of (e ∷ es) = load_by e.call e.answer ++ loads_of es

-- what session s is shown stands on these: the accepted loads, the committed pages in commit order, its own page
abbrev pub bookings : List Exchange → History → ℤ → List Update
bookings es h s = loads_of es ++ (whole h.commits ++ changes_of (h.page (nat_of s)))

-- what a session is shown (ReadsShow) lacks each lot that a load, a committed session or itself withdrew, and that none of these put back
abbrev pub ReadsLack : Type 0
ReadsLack =
    (ts : List Turn) (s : ℤ) → LacksAll (bookings (exchanges ts initial.plant) (turns ts initial).history s) (shown_to (turns ts initial).history s)

-- and so does the store, which holds the loads and a first part of the committed sessions, whichever part that is
abbrev pub StoreLacks : Type 0
StoreLacks =
    (ts : List Turn) (part : FirstPart (turns ts initial).history (left_by ts).store)
    → LacksAll (loads_of (exchanges ts initial.plant) ++ whole part.done) (left_by ts).store
