-- Session numbers in a list of calls: each begin answers the next one.
use Prim.Native.Nat.{◌+◌, ◌<◌, ◌≤◌, suc, zero, ℕ}
use native.Mathlib.Omega.{arith}
use mathlib.Core.Path.{◌∙◌, ◌≡◌, ap, refl, subst}
use mathlib.Core.Bool.{true}
use mathlib.Core.Option.{Option, none, some}
use mathlib.Core.Logic.{◌⊎◌, inl, inr}
use mathlib.Core.List.{List, [], ◌++◌, ◌∷◌}
use lib.ListN.{length}
use lib.Dec.{leb, ltb}
use lib.IntN.{ℤ}
use borrow.Author.Tests.{le-leb, lt-ltb}
use Rattle.rules.specs.Lists.{all, pairwise, span}
use Rattle.rules.specs.Limits.{first_session, last_session}
use Rattle.rules.specs.Refusals.{Refusal, ends_session, first}
use Rattle.rules.specs.Tables.{Plant, setup}
use Rattle.rules.specs.Calls.{Call, Load, Map, Begin, Read, Change, Commit, Abandon, Advance, Take, Apply, Delete, Cut, Sweep, Store, Report, Answer, refused, fine}
use Rattle.rules.specs.Conditions.{conditions}
use Rattle.rules.specs.Step.{accepted, settle, step}
use Rattle.rules.specs.History.{Turn, does, initial, exchanges, begun_by, numbers_begun}
use Rattle.rules.specs.Claims.{NumbersRise}
use Rattle.rules.proofs.Laws.{by_case, none_met, both}
use Rattle.rules.proofs.Answered.{begin_counts, begin_fits}
use Rattle.rules.proofs.Frames.{writes_only_lem}

-- what a call does to the next number: nothing, or it answers it
abbrev Moves : List ℕ → ℕ → ℕ → Type 0
Moves ns before after = ((ns ≡ []) × (after ≡ before)) ⊎ ((ns ≡ before ∷ []) × (after ≡ suc before) × (before ≤ last_session))

-- a call other than begin answers no session's number
others : (c : Call) (lent : List ℤ) (p : Plant) → ((ns : List ℕ) → begun_by c (fine ns) ≡ [])
    → (step c lent p).plant.next ≡ p.next
    → Moves (begun_by c (step c lent p).answer) p.next (step c lent p).plant.next
others c lent p h e = inl (none_begun (step c lent p).answer, e)
  where
    none_begun : (a : Answer) → begun_by c a ≡ []
    none_begun (refused r) = refl
    none_begun (fine ns) = h ns

begins : (lent : List ℤ) (p : Plant)
    → Moves (begun_by Begin (step Begin lent p).answer) p.next (step Begin lent p).plant.next
unfolding step accepted
begins lent p = go (first (conditions Begin lent p)) refl
  where
    go : (o : Option Refusal) → first (conditions Begin lent p) ≡ o
        → Moves (begun_by Begin (settle o Begin lent p).answer) p.next (settle o Begin lent p).plant.next
    go none e = inr (refl, begin_counts p, begin_fits lent p (none_met (conditions Begin lent p) e))
    go (some r) e = inl (refl, by_case (ends_session r) (λ t. rw t) (λ t. rw t))

moves : (c : Call) (lent : List ℤ) (p : Plant)
    → Moves (begun_by c (step c lent p).answer) p.next (step c lent p).plant.next
moves (Load d f k v) lent p = others (Load d f k v) lent p (λ ns. refl) (ap (λ q. q.next) (writes_only_lem (Load d f k v) lent p))
moves (Map k n m) lent p = others (Map k n m) lent p (λ ns. refl) (ap (λ q. q.next) (writes_only_lem (Map k n m) lent p))
moves Begin lent p = begins lent p
moves (Read s k) lent p = others (Read s k) lent p (λ ns. refl) (ap (λ q. q.next) (writes_only_lem (Read s k) lent p))
moves (Change s d f k v) lent p = others (Change s d f k v) lent p (λ ns. refl) (ap (λ q. q.next) (writes_only_lem (Change s d f k v) lent p))
moves (Commit s) lent p = others (Commit s) lent p (λ ns. refl) (ap (λ q. q.next) (writes_only_lem (Commit s) lent p))
moves (Abandon s) lent p = others (Abandon s) lent p (λ ns. refl) (ap (λ q. q.next) (writes_only_lem (Abandon s) lent p))
moves (Advance n) lent p = others (Advance n) lent p (λ ns. refl) (ap (λ q. q.next) (writes_only_lem (Advance n) lent p))
moves (Take w) lent p = others (Take w) lent p (λ ns. refl) (ap (λ q. q.next) (writes_only_lem (Take w) lent p))
moves (Apply w fate) lent p = others (Apply w fate) lent p (λ ns. refl) (ap (λ q. q.next) (writes_only_lem (Apply w fate) lent p))
moves (Delete w) lent p = others (Delete w) lent p (λ ns. refl) (ap (λ q. q.next) (writes_only_lem (Delete w) lent p))
moves (Cut w) lent p = others (Cut w) lent p (λ ns. refl) (ap (λ q. q.next) (writes_only_lem (Cut w) lent p))
moves Sweep lent p = others Sweep lent p (λ ns. refl) (ap (λ q. q.next) (writes_only_lem Sweep lent p))
moves (Store n) lent p = others (Store n) lent p (λ ns. refl) (ap (λ q. q.next) (writes_only_lem (Store n) lent p))
moves (Report s) lent p = others (Report s) lent p (λ ns. refl) (ap (λ q. q.next) (writes_only_lem (Report s) lent p))

-- ── every list of calls ──
-- numbers that count on from n, to the last at most
record From (n : ℕ) (ns : List ℕ) : Type 0 where
  counts : ns ≡ span n (length ns)
  ends : all (λ m. leb m last_session) ns ≡ true

from_next : (ts : List Turn) (p : Plant) → From p.next (numbers_begun (exchanges ts p))
from_next [] p = record { counts = refl; ends = refl }
from_next (t ∷ ts) p =
    go (begun_by t.call (does t p).answer) (moves t.call t.lent p) (from_next ts (does t p).plant)
  where
    go : (ns : List ℕ) → Moves ns p.next (does t p).plant.next
        → From (does t p).plant.next (numbers_begun (exchanges ts (does t p).plant))
        → From p.next (ns ++ numbers_begun (exchanges ts (does t p).plant))
    go ns (inl (e, n)) f = rw e (subst (λ m. From m (numbers_begun (exchanges ts (does t p).plant))) n f)
    go ns (inr (e, n, b)) f =
        rw e (record {
          counts = ap (λ l. p.next ∷ l) (f.counts ∙ ap (λ m. span m (length (numbers_begun (exchanges ts (does t p).plant)))) (n ∙ omega arith));
          ends = both (leb p.next last_session) _ (le-leb p.next last_session b) f.ends;
        })

span_later : (n m k : ℕ) → n < m → all (ltb n) (span m k) ≡ true
span_later n m zero h = refl
span_later n m (suc k) h = both (ltb n m) (all (ltb n) (span (m + 1) k)) (lt-ltb n m h) (span_later n (m + 1) k (omega arith))

span_rises : (n k : ℕ) → pairwise ltb (span n k) ≡ true
span_rises n zero = refl
span_rises n (suc k) =
    both (all (ltb n) (span (n + 1) k)) (pairwise ltb (span (n + 1) k)) (span_later n (n + 1) k (omega arith)) (span_rises (n + 1) k)

pub numbers_rise_lem : NumbersRise
unfolding initial setup
numbers_rise_lem ts =
    let f = from_next ts initial.plant in
    record { counts = f.counts; rises = ap (pairwise ltb) f.counts ∙ span_rises first_session (length (numbers_begun (exchanges ts initial.plant))); ends = f.ends }
