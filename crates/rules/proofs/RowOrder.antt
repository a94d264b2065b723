-- Rows stand in the order in which they were applied, whatever the call, and a sweep takes the oldest that may go.
use Prim.Native.Nat.{◌≤◌, ℕ}
use native.Mathlib.Omega.{arith}
use mathlib.Core.Path.{◌∙◌, ◌≡◌, ap, refl, subst, sym}
use mathlib.Core.Bool.{◌&&◌, false, not, true, true≢false}
use mathlib.Core.List.{List, [], ◌++◌, ◌∷◌, append_assoc, append-nil, nil≢cons}
use lib.ListN.{length, take}
use lib.Dec.{eqb, ltb}
use lib.IntN.{ℤ}
use borrow.Author.Tests.{eqb-true, not-true}
use Rattle.rules.specs.Lists.{keep, pushed, has, InOrder}
use Rattle.rules.specs.Limits.{row_limit, sweep_limit}
use Rattle.rules.specs.Tables.{Plant, setup, removable}
use Rattle.rules.specs.Calls.{Call, Sweep, fine}
use Rattle.rules.specs.Effects.{carried, removed, swept}
use Rattle.rules.specs.Conditions.{ever_begun}
use Rattle.rules.specs.Step.{accepted, step}
use Rattle.rules.specs.History.{Turn, World, does, turn, turns, initial, left_by}
use Rattle.rules.specs.RowOrder.{came, StandInOrder, RowsInOrder, ComesWhenApplied, StoreStaysElse, applied_from, applied_order, AppliedOnce, InAppliedOrder, oldest_removable, TakesOldest, OldestRowsGo}
use Rattle.rules.proofs.Laws.{by_case, self, pushed_room}
use Rattle.rules.proofs.Tests.{Once, once_test}
use Rattle.rules.proofs.Steps.{step-fine, given, fine-none}
use Rattle.rules.proofs.Buffer.{has_snoc_false, has_snoc_true, once_snoc, has-keep-false}
use Rattle.rules.proofs.InOrder.{keep_append, keep-keep, keep_same, kept_has, in_order_self, in_order_has, in_order_trans, in_order_kept, in_order_last, without_none}
use Rattle.rules.proofs.KeptParts.{Kept}
use Rattle.rules.proofs.KeptTables.{has-keep-true}
use Rattle.rules.proofs.Kept.{step_keeps_lem, initial_kept}
use Rattle.rules.proofs.KeptTest.{kept_iff}
use Rattle.rules.proofs.Answered.{stays_carried}
use Rattle.rules.proofs.AppliedOnce.{Spent, row_spent, spent_step, RowsAfter, stay, fewer, carry, rows_after, came_after, came_unspent}

-- ── of one call ──
-- of rows that are left none came
none_came : (old now : List ℕ) → InOrder now old → came old now ≡ []
none_came old now e = keep_same (λ n. not (has n old)) (λ n. false) now (λ n h. ap not (there n h)) ∙ keeps_none now
  where
    there : (n : ℕ) → has n now ≡ true → has n old ≡ true
    there n h = by_case (has n old) (λ t. t) (λ t. absurd (true≢false (sym h ∙ in_order_has now old n e t)))

    keeps_none : (l : List ℕ) → keep (λ n. false) l ≡ []
    keeps_none [] = refl
    keeps_none (n ∷ l) = keeps_none l

left : (old now : List ℕ) → InOrder now old → StandInOrder old now
left old now e =
    record {
      order = e ∙ sym (append-nil (keep (λ n. has n now) old)) ∙ ap (λ l. keep (λ n. has n now) old ++ l) (sym (none_came old now e));
      one_at_most = rw (none_came old now e) (omega arith);
    }

same : (l : List ℕ) → StandInOrder l l
same l = left l l (in_order_self l)

came_one : (n : ℕ) (l : List ℕ) → has n l ≡ false → came l (l ++ (n ∷ [])) ≡ n ∷ []
came_one n l h = keep_append (λ m. not (has m l)) l (n ∷ []) ∙ rw (none_came l l (in_order_self l), h) refl

one_more : (n : ℕ) (l : List ℕ) → has n l ≡ false → StandInOrder l (l ++ (n ∷ []))
one_more n l h =
    record {
      order = rw (came_one n l h) (ap (λ z. z ++ (n ∷ [])) (in_order_self l ∙ keep_same (λ m. has m l) (λ m. has m (l ++ (n ∷ []))) l (λ m t. t ∙ sym (has_snoc_true m n l t))));
      one_at_most = rw (came_one n l h) (omega arith);
    }

carried_rows : (n : ℕ) (p : Plant) → StandInOrder p.rows (carried n p).rows
unfolding carried pushed
carried_rows n p =
    by_case (has n p.rows) (λ e. rw e (same p.rows))
    (λ e. rw e (by_case (ltb (length p.rows) row_limit) (λ t. rw t (one_more n p.rows e)) (λ t. rw t (same p.rows))))

in_order_after : (p q : Plant) → RowsAfter p q → StandInOrder p.rows q.rows
in_order_after p q (stay e s) = rw e (same p.rows)
in_order_after p q (fewer f e s) = rw e (left p.rows (keep f p.rows) (in_order_kept f p.rows))
in_order_after p q (carry n es er r o) = rw er (carried_rows n p)

pub rows_in_order_lem : RowsInOrder
rows_in_order_lem c lent p = in_order_after p (step c lent p).plant (rows_after c lent p)

pub comes_when_applied_lem : ComesWhenApplied
comes_when_applied_lem c lent p n k h =
    let q = (step c lent p).plant in
    came_after n p q ((kept_iff p).0 k) (rows_after c lent p) (has-keep-true (λ m. not (has m p.rows)) n q.rows h)
    (not-true (has n p.rows) (kept_has (λ m. not (has m p.rows)) n q.rows h))

stays_else : (p q : Plant) → RowsAfter p q → ever_begun p ≡ true → came p.rows q.rows ≡ [] → q.store ≡ p.store
unfolding carried
stays_else p q (stay e s) b h = s b
stays_else p q (fewer f e s) b h = s
stays_else p q (carry n es er r o) b h =
    by_case (has n p.rows) (λ t. es ∙ ap (λ z. z.store) (stays_carried n p t))
    (λ t.
    let now : q.rows ≡ p.rows ++ (n ∷ []) = er ∙ rw (t, pushed_room row_limit p.rows n (r t)) refl in
    absurd (nil≢cons (sym h ∙ ap (came p.rows) now ∙ came_one n p.rows t)))

pub store_stays_else_lem : StoreStaysElse
store_stays_else_lem c lent p = stays_else p (step c lent p).plant (rows_after c lent p)

-- ── after every list of calls ──
-- l are the sessions applied so far: they are spent, each stands once, and the rows stand in their order
record Applied (l : List ℕ) (p : Plant) : Type 0 where
  spent : (n : ℕ) → has n l ≡ true → Spent n p
  once : Once l
  order : InOrder p.rows l

one_call : (c : Call) (lent : List ℤ) (l : List ℕ) (p : Plant) → Kept p → Applied l p
    → Applied (l ++ came p.rows (step c lent p).plant.rows) (step c lent p).plant
one_call c lent l p k a = go (came old now) refl s.one_at_most
  where
    q : Plant
    q = (step c lent p).plant

    old : List ℕ
    old = p.rows

    now : List ℕ
    now = q.rows

    s : StandInOrder old now
    s = rows_in_order_lem c lent p

    stayed : List ℕ
    stayed = keep (λ n. has n now) old

    stayed-order : InOrder stayed l
    stayed-order = in_order_trans stayed old l (in_order_kept (λ n. has n now) old) a.order

    still : (n : ℕ) → has n l ≡ true → Spent n q
    still n h = spent_step c lent p n k (a.spent n h)

    go : (new : List ℕ) → came old now ≡ new → length new ≤ 1 → Applied (l ++ new) q
    go [] e few =
        subst (λ m. Applied m q) (sym (append-nil l))
        (record { spent = still; once = a.once; order = subst (λ m. InOrder m l) (sym (s.order ∙ ap (λ m. stayed ++ m) e ∙ append-nil stayed)) stayed-order })
    go (n ∷ []) e few =
        record {
          spent = λ m h. by_case (has m l) (still m) (λ t. row_spent m q (step_keeps_lem c lent p k) (rw (only m t h) there));
          once = once_snoc n l new a.once;
          order = subst (λ m. InOrder m (l ++ (n ∷ []))) (sym (s.order ∙ ap (λ m. stayed ++ m) e))
              (subst (λ m. InOrder (stayed ++ (n ∷ [])) (m ++ (n ∷ []))) (without_none n l new)
              (in_order_last n stayed l (has-keep-false (λ m. has m now) n old not_there) stayed-order));
        }
      where
        n_came : has n (came old now) ≡ true
        n_came = rw (e, self n)

        not_there : has n old ≡ false
        not_there = not-true (has n old) (kept_has (λ m. not (has m old)) n now n_came)

        there : has n now ≡ true
        there = has-keep-true (λ m. not (has m old)) n now n_came

        new : has n l ≡ false
        new = by_case (has n l) (λ t. absurd (came_unspent (came_after n p q k (rows_after c lent p) there not_there) (a.spent n t))) (λ t. t)

        only : (m : ℕ) → has m l ≡ false → has m (l ++ (n ∷ [])) ≡ true → m ≡ n
        only m t h = by_case (eqb m n) (λ u. eqb-true m n u) (λ u. absurd (true≢false (sym h ∙ has_snoc_false m n l t u)))
    go (n ∷ m ∷ i) e few = absurd (omega arith)

all_calls : (ts : List Turn) (w : World) (l : List ℕ) → Kept w.plant → Applied l w.plant → Applied (l ++ applied_from ts w.plant) (turns ts w).plant
all_calls [] w l k a = subst (λ m. Applied m w.plant) (sym (append-nil l)) a
all_calls (t ∷ ts) w l k a =
    let new = came w.plant.rows (does t w.plant).plant.rows in
    subst (λ m. Applied m (turns ts (turn t w)).plant) (append_assoc l new (applied_from ts (does t w.plant).plant))
    (all_calls ts (turn t w) (l ++ new) (step_keeps_lem t.call t.lent w.plant k) (one_call t.call t.lent l w.plant k a))

from_set_up : (ts : List Turn) → Applied (applied_order ts) (left_by ts)
unfolding initial setup
from_set_up ts = all_calls ts initial [] initial_kept (record { spent = λ n h. absurd (true≢false (sym h)); once = tt; order = refl })

pub applied_once_lem : AppliedOnce
applied_once_lem ts = once_test (applied_order ts) (from_set_up ts).once

pub in_applied_order_lem : InAppliedOrder
in_applied_order_lem ts = (from_set_up ts).order

-- ── a sweep ──
-- of rows that stand in an order
pub takes_oldest : (order : List ℕ) (p : Plant) → InOrder p.rows order → TakesOldest order p (length (removed p) ∷ []) (swept p).rows
unfolding swept
takes_oldest order p o =
    let oldest : removed p ≡ oldest_removable order p =
    ap (λ l. take sweep_limit (keep (removable p) l)) o ∙ ap (take sweep_limit) (keep-keep (removable p) (λ n. has n p.rows) order) in
    record {
      counts = ap (λ l. length l ∷ []) oldest;
      leaves = ap (keep (λ n. not (has n (removed p)))) o
          ∙ keep-keep (λ n. not (has n (removed p))) (λ n. has n p.rows) order
          ∙ ap (λ l. keep (λ n. has n p.rows && not (has n l)) order) oldest;
    }

pub sweep_takes_oldest : (order : List ℕ) (lent : List ℤ) (p : Plant) (ns : List ℕ) → InOrder p.rows order → (step Sweep lent p).answer ≡ fine ns
    → TakesOldest order p ns (step Sweep lent p).plant.rows
unfolding accepted
sweep_takes_oldest order lent p ns o e =
    let q = step-fine Sweep lent p (fine-none Sweep lent p ns e) in
    let told : ns ≡ length (removed p) ∷ [] = ap given (sym e ∙ ap (λ r. r.answer) q) in
    rw (told, q) (takes_oldest order p o)

pub oldest_rows_go_lem : OldestRowsGo
oldest_rows_go_lem ts lent ns e = sweep_takes_oldest (applied_order ts) lent (left_by ts) ns (in_applied_order_lem ts) e
