-- Runs of calls with their answer lines, for the tables of worked examples.
use Rattle.std.specs.Prelude.{◌*◌, suc, zero, ℕ, ◌≡◌, Bool, List, [], ◌++◌, ◌∷◌, map, replicate, pos, ℤ}
use Rattle.rules.specs.Lists.{bit, span}
use Rattle.rules.specs.Limits.{place_limit, words_per_field}
use Rattle.rules.specs.Refusals.{refusal_number}
use Rattle.rules.specs.Values.{Place}
use Rattle.rules.specs.Changes.{Kind, set, push, kind_number, Update}
use Rattle.rules.specs.Tables.{Plant, setup, with_rows}
use Rattle.rules.specs.Calls.{Pair, Fate, arrives, lost, fate_number, Call, Load, Map, Begin, Read, Change, Commit, Advance, Take, Apply, Delete, Cut, Store, Report, Answer, refused, fine, Result}
use Rattle.rules.specs.Step.{step}

-- ── a call and its answer line ──
pub record Line : Type 0 where
  pub call : Call
  pub answer : List ℕ

infix 80 ◌gets◌
abbrev pub ◌gets◌ : Call → List ℕ → Line
c gets l = record { call = c; answer = l }

-- no number, one number, a refusal
abbrev pub yes : List ℕ
yes = 0 ∷ []

abbrev pub says : ℕ → List ℕ
says n = 0 ∷ n ∷ []

abbrev pub no : ℕ → List ℕ
no n = n ∷ []

-- the refusal or 0, then the numbers
abbrev pub line_of : Answer → List ℕ
line_of (refused r) = refusal_number r ∷ []
line_of (fine ns) = 0 ∷ ns

-- ── runs ──
-- the longest key's words are lent
abbrev pub alone : Call → Plant → Result
alone c p = step c (replicate (words_per_field * place_limit) (pos 0)) p

abbrev pub answers : List Line → Plant → List (List ℕ)
answers [] p = []
answers (l ∷ ls) p = line_of (alone l.call p).answer ∷ answers ls (alone l.call p).plant

abbrev pub after : List Line → Plant → Plant
after [] p = p
after (l ∷ ls) p = after ls (alone l.call p).plant

-- each call of the run gets its answer
abbrev pub Plays : Plant → List Line → Type 0
Plays p ls = answers ls p ≡ map (λ l. l.answer) ls

-- ── calls by natural numbers ──
abbrev pub load : ℕ → ℕ → Kind → ℤ → Call
load d f k v = Load (pos d) (pos f) (pos (kind_number k)) v

abbrev pub pair : ℕ → ℕ → Pair
pair d f = record { document = pos d; field = pos f }

abbrev pub zeros : Pair
zeros = pair 0 0

-- a key of one place, and of two
abbrev pub map_one : ℕ → Pair → Call
map_one k a = Map (pos k) (pos 1) (record { first = a; second = zeros; third = zeros; fourth = zeros })

abbrev pub map_two : ℕ → Pair → Pair → Call
map_two k a b = Map (pos k) (pos 2) (record { first = a; second = b; third = zeros; fourth = zeros })

abbrev pub read : ℕ → ℕ → Call
read s k = Read (pos s) (pos k)

abbrev pub edit : ℕ → ℕ → ℕ → Kind → ℤ → Call
edit s d f k v = Change (pos s) (pos d) (pos f) (pos (kind_number k)) v

abbrev pub commit : ℕ → Call
commit s = Commit (pos s)

abbrev pub report : ℕ → Call
report s = Report (pos s)

abbrev pub advance : ℕ → Call
advance n = Advance (pos n)

abbrev pub takes : ℕ → Call
takes w = Take (pos w)

abbrev pub apply : ℕ → Fate → Call
apply w fate = Apply (pos w) (pos (fate_number fate))

abbrev pub delete : ℕ → Call
delete w = Delete (pos w)

abbrev pub cuts : ℕ → Call
cuts w = Cut (pos w)

abbrev pub near : Bool → Call
near b = Store (pos (bit b))

-- ── the place of most runs: document 0, field 0, shown by key 0 ──
abbrev pub origin : Place
origin = record { document = 0; field = 0 }

-- another field of that document
abbrev pub elsewhere : Place
elsewhere = record { document = 0; field = 1 }

abbrev pub at : Place → Kind → ℤ → Update
at q k v = record { at = q; kind = k; value = v }

abbrev pub map_origin : Call
map_origin = map_one 0 zeros

abbrev pub edit_origin : ℕ → Kind → ℤ → Call
edit_origin s k v = edit s 0 0 k v

-- session n sets the origin and commits, the b-th buffered
abbrev pub setting : ℕ → ℕ → List Line
setting n b = Begin gets says n ∷ edit_origin n set (pos 5) gets says 1 ∷ commit n gets says b ∷ []

-- ── runs that others begin with ──
-- n begins after k
abbrev pub begins : ℕ → ℕ → List Line
begins zero k = []
begins (suc n) k = Begin gets says (suc k) ∷ begins n (suc k)

-- session s's next n sets of the origin, after k
abbrev pub sets_by : ℕ → ℕ → ℕ → List Line
sets_by s zero k = []
sets_by s (suc n) k = edit_origin s set (pos 0) gets says (suc k) ∷ sets_by s n (suc k)

-- n pushes of 1 to a field
abbrev pub pushes : ℕ → ℕ → ℕ → List Line
pushes d f zero = []
pushes d f (suc n) = load d f push (pos 1) gets yes ∷ pushes d f n

-- keys 0 to n - 1, each with its own document, and reads of them by session 1 that cache them
abbrev pub map_keys : ℕ → List Line
map_keys zero = []
map_keys (suc n) = map_one n (pair n 0) gets yes ∷ map_keys n

abbrev pub read_keys : ℕ → List Line
read_keys zero = []
read_keys (suc n) = read 1 n gets says 1 ∷ read_keys n

-- of eighteen keys 15 to 0 are cached, 15 first
abbrev pub sixteen_cached : List Line
sixteen_cached = map_keys 18 ++ (Begin gets says 1 ∷ read_keys 16)

-- session 1 in worker 0's hand, and k rows from n on
abbrev pub hand_with_rows : ℕ → ℕ → Plant
hand_with_rows n k = with_rows (span n k) (after (setting 1 1 ++ (takes 0 gets says 1 ∷ [])) setup)

-- session 1 applied by worker 0, and deleted from the buffer
abbrev pub applied1 : List Line
applied1 = setting 1 1 ++ (takes 0 gets says 1 ∷ apply 0 arrives gets says 1 ∷ [])

abbrev pub deleted1 : List Line
deleted1 = applied1 ++ (delete 0 gets says 1 ∷ [])

-- session 1 applied by worker 0, whose reply is lost and who is slow; then by worker 1
abbrev pub slow1 : List Line
slow1 =
    setting 1 1
    ++ (takes 0 gets says 1
    ∷ apply 0 lost gets says 0
    ∷ advance 300 gets says 300
    ∷ takes 1 gets says 1
    ∷ apply 1 arrives gets says 2
    ∷ delete 1 gets says 1
    ∷ [])

-- session 2 commits before session 1; applied by worker 0, whose reply is lost and who is slow; then by worker 1
abbrev pub latter_first : List Line
latter_first =
    begins 2 0
    ++ (edit 1 1 0 set (pos 4) gets says 1
    ∷ edit 2 2 0 set (pos 4) gets says 1
    ∷ commit 2 gets says 1
    ∷ commit 1 gets says 2
    ∷ takes 0 gets says 2
    ∷ apply 0 lost gets says 0
    ∷ advance 300 gets says 300
    ∷ takes 1 gets says 2
    ∷ apply 1 arrives gets says 2
    ∷ delete 1 gets says 1
    ∷ [])

-- session 1 applied by worker 1, taken by worker 0 with a live lease, and deleted by worker 1
abbrev pub overtaken : List Line
overtaken =
    setting 1 1
    ++ (takes 1 gets says 1
    ∷ apply 1 arrives gets says 1
    ∷ advance 300 gets says 300
    ∷ takes 0 gets says 1
    ∷ delete 1 gets says 1
    ∷ [])
