-- A row comes with the transaction of its session. A session that has been applied is spent and stays so, and a spent one is not applied again.
use Prim.Native.Nat.{◌+◌, ◌<◌, ℕ}
use mathlib.Core.Path.{◌∙◌, ◌≡◌, ap, refl, subst, sym}
use mathlib.Core.Bool.{Bool, ◌&&◌, false, not, true, true≢false}
use mathlib.Core.Logic.{inl}
use mathlib.Core.Option.{Option, none, some}
use mathlib.Core.List.{List, [], ◌++◌, ◌∷◌}
use lib.ListN.{length}
use lib.Dec.{eqb, leb, ltb}
use lib.IntN.{ℤ}
use borrow.Author.Tests.{eqb-true, not-false, not-true}
use Rattle.rules.specs.Lists.{keep, is_empty, pushed, has, same_case}
use Rattle.rules.specs.Limits.{slot_limit, buffer_limit, row_limit, worker_count}
use Rattle.rules.specs.Refusals.{Refusal, ends_session, first, out_of_range, wrong_hand, rows_full}
use Rattle.rules.specs.Values.{below, nat_of}
use Rattle.rules.specs.Changes.{Update, place_of, update_of}
use Rattle.rules.specs.Tables.{has_slot, session, Batch, numbers_of, is_buffered, is_oldest, unbuffer, full, handed, Plant}
use Rattle.rules.specs.Calls.{Fate, arrives, lost, unreached, fate_number, fate_of, Call, Load, Map, Begin, Read, Change, Commit, Abandon, Advance, Take, Apply, Delete, Cut, Sweep, Store, Report}
use Rattle.rules.specs.Conditions.{ever_begun, good_fate, no_room, conditions}
use Rattle.rules.specs.Effects.{loaded, mapped, opened, first_doomed, room, begun, with_shared, only_at, after_read, grant, changed, buffered_after, committed, abandoned, lapse, advanced, taken, carried, applied, deleted, cut, removed, swept}
use Rattle.rules.specs.Step.{accepted, session_of, ending, settle, step}
use Rattle.rules.specs.Kept.{is_fresh}
use Rattle.rules.specs.Answers.{Carries}
use Rattle.rules.proofs.Laws.{by_case, self, not_met, NoneMet, none_met, and_true, or_false, below_is, pushed_room}
use Rattle.rules.proofs.Slots.{has_slot_lem}
use Rattle.rules.proofs.KeptParts.{Kept}
use Rattle.rules.proofs.Buffer.{nums_append, is_oldest_lem, has_snoc_false, has_snoc_true, nums_unbuffer, has-keep-false, buffered_nums, row_room}
use Rattle.rules.proofs.Sweeping.{row_stays, row_good}
use Rattle.rules.proofs.Answered.{carries}
use Rattle.rules.proofs.KeptSlots.{room_fits}
use Rattle.rules.proofs.KeptSetup.{number_look}
use Rattle.rules.proofs.KeptTables.{has-keep-true}
use Rattle.rules.proofs.CommitOrder.{is_gone, slotless, gone-freed, gone-each, gone-begun}

-- it has no slot and never will have one, and while it is buffered its row stands
pub record Spent (n : ℕ) (p : Plant) : Type 0 where
  pub gone : is_gone p.next p.slots n ≡ true
  pub row : is_buffered n p.buffer ≡ true → has n p.rows ≡ true

-- a session whose row stands is
pub row_spent : (n : ℕ) (p : Plant) → Kept p → has n p.rows ≡ true → Spent n p
row_spent n p k h = record { gone = rw (number, slot) refl; row = λ e. h }
  where
    number : ltb n p.next ≡ true
    number = (and_true (leb 1 n) (ltb n p.next) (row_good n p k h)).1

    slot : has_slot n p.slots ≡ false
    slot =
        by_case (has_slot n p.slots)
        (λ t. absurd (true≢false (sym h ∙ not-true (has n p.rows) (and_true (not (is_buffered n p.buffer)) (not (has n p.rows)) (number_look (is_fresh p.buffer p.rows) n p.slots k.fresh t)).1)))
        (λ t. t)

-- ── it stays so ──
unbuffered_was : (n m : ℕ) (l : List Batch) → is_buffered n (unbuffer m l) ≡ true → is_buffered n l ≡ true
unbuffered_was n m l h =
    buffered_nums n l ∙ has-keep-true (λ i. not (eqb m i)) n (numbers_of l) (sym (ap (has n) (nums_unbuffer m l)) ∙ sym (buffered_nums n (unbuffer m l)) ∙ h)

-- a commit buffers its own session, which has a slot
buffered_was : (n s : ℕ) (cs : List Update) (l : List Batch) → eqb n s ≡ false → is_buffered n (buffered_after s cs l) ≡ true → is_buffered n l ≡ true
unfolding pushed
buffered_was n s cs l e h =
    by_case (is_empty cs) (λ t. rw t at h)
    (λ t. by_case (ltb (length l) buffer_limit) (λ u. one_more (rw (t, u) at h)) (λ u. rw (t, u) at h))
  where
    one_more : is_buffered n (l ++ (record { number = s; changes = cs } ∷ [])) ≡ true → is_buffered n l ≡ true
    one_more g =
        by_case (is_buffered n l) (λ u. u)
        (λ u. absurd (true≢false (sym g ∙ buffered_nums n (l ++ (record { number = s; changes = cs } ∷ []))
        ∙ ap (has n) (nums_append l (record { number = s; changes = cs } ∷ [])) ∙ has_snoc_false n s (numbers_of l) (sym (buffered_nums n l) ∙ u) e)))

carried_spent : (n m : ℕ) (p : Plant) → Spent n p → Spent n (carried m p)
unfolding carried pushed
carried_spent n m p s =
    by_case (has m p.rows) (λ e. rw e s)
    (λ e. rw e (record { gone = s.gone; row = λ h. by_case (ltb (length p.rows) row_limit) (λ t. rw t (has_snoc_true n m p.rows (s.row h))) (λ t. rw t (s.row h)) }))

spent_accepted : (c : Call) (lent : List ℤ) (p : Plant) (n : ℕ) → NoneMet (conditions c lent p) → Kept p → Spent n p → Spent n (accepted c lent p).plant
unfolding accepted conditions loaded mapped begun after_read changed committed abandoned advanced taken applied deleted cut swept
spent_accepted (Load d f kd v) lent p n m k s = record { gone = s.gone; row = s.row }
spent_accepted (Map ky i qs) lent p n m k s = record { gone = s.gone; row = s.row }
spent_accepted Begin lent p n m k s =
    record {
      gone = rw (pushed_room slot_limit (room p.slots) (opened p.next p.clock) (room_fits p.slots k.slots.few (not_met _ _ m.1.0)))
          (gone-begun n p.next (room p.slots) with_room p.clock);
      row = s.row;
    }
  where
    with_room : is_gone p.next (room p.slots) n ≡ true
    with_room = by_case (leb slot_limit (length p.slots)) (λ e. rw e (gone-freed n p.next p.slots s.gone (first_doomed p.slots))) (λ e. rw e s.gone)
spent_accepted (Read x ky) lent p n m k s =
    record { gone = gone-each n p.next p.slots s.gone (only_at (nat_of x) (with_shared p.clock (p.keys (nat_of ky)))); row = s.row }
spent_accepted (Change x d f kd v) lent p n m k s =
    record { gone = gone-each n p.next p.slots s.gone (grant p.clock (nat_of x) (update_of (place_of d f) (nat_of kd) v)); row = s.row }
spent_accepted (Commit x) lent p n m k s =
    record {
      gone = gone-freed n p.next p.slots s.gone (nat_of x);
      row = λ h. s.row (buffered_was n (nat_of x) (session (nat_of x) p.slots).changes p.buffer other h);
    }
  where
    other : eqb n (nat_of x) ≡ false
    other =
        by_case (eqb n (nat_of x))
        (λ t. absurd (true≢false (sym (has_slot_lem (nat_of x) p.slots (not_met _ _ m.1.0)) ∙ ap (λ i. has_slot i p.slots) (sym (eqb-true n (nat_of x) t)) ∙ slotless n p.next p.slots s.gone)))
        (λ t. t)
spent_accepted (Abandon x) lent p n m k s = record { gone = gone-freed n p.next p.slots s.gone (nat_of x); row = s.row }
spent_accepted (Advance i) lent p n m k s = record { gone = gone-each n p.next p.slots s.gone (lapse (p.clock + nat_of i)); row = s.row }
spent_accepted (Take w) lent p n m k s = record { gone = s.gone; row = s.row }
spent_accepted (Apply w fate) lent p n m k s = go (fate_of fate)
  where
    there : Spent n (carried (handed (p.hands (nat_of w))) p)
    there = carried_spent n (handed (p.hands (nat_of w))) p s

    go : (x : Fate) → Spent n (applied x (nat_of w) p)
    go arrives = record { gone = there.gone; row = there.row }
    go lost = by_case (no_room (nat_of w) p) (λ e. rw e s) (λ e. rw e there)
    go unreached = s
spent_accepted (Delete w) lent p n m k s =
    record { gone = s.gone; row = λ h. s.row (unbuffered_was n (handed (p.hands (nat_of w))) p.buffer h) }
spent_accepted (Cut w) lent p n m k s = record { gone = s.gone; row = s.row }
spent_accepted Sweep lent p n m k s = record { gone = s.gone; row = λ h. row_stays p n (inl h) ∙ s.row h }
spent_accepted (Store i) lent p n m k s = record { gone = s.gone; row = s.row }
spent_accepted (Report x) lent p n m k s = s

pub spent_step : (c : Call) (lent : List ℤ) (p : Plant) (n : ℕ) → Kept p → Spent n p → Spent n (step c lent p).plant
unfolding step
spent_step c lent p n k s = go (first (conditions c lent p)) refl
  where
    ended : (x : Option ℕ) → Spent n (ending x p)
    ended none = s
    ended (some i) = record { gone = gone-freed n p.next p.slots s.gone i; row = s.row }

    go : (x : Option Refusal) → first (conditions c lent p) ≡ x → Spent n (settle x c lent p).plant
    go none e = spent_accepted c lent p n (none_met (conditions c lent p) e) k s
    go (some r) e = by_case (ends_session r) (λ t. rw t (ended (session_of c))) (λ t. rw t s)

-- ── what a call does to the rows, and to the store once a session has begun ──
pub data RowsAfter (p q : Plant) : Type 0 where
  stay : q.rows ≡ p.rows → (ever_begun p ≡ true → q.store ≡ p.store) → RowsAfter p q
  fewer : (f : ℕ → Bool) → q.rows ≡ keep f p.rows → q.store ≡ p.store → RowsAfter p q
  carry : (n : ℕ) → q.store ≡ (carried n p).store → q.rows ≡ (carried n p).rows → (has n p.rows ≡ false → length p.rows < row_limit)
      → (Kept p → has n p.rows ≡ false → is_oldest n p.buffer ≡ true) → RowsAfter p q

rows_accepted : (c : Call) (lent : List ℤ) (p : Plant) → NoneMet (conditions c lent p) → RowsAfter p (accepted c lent p).plant
unfolding accepted conditions loaded mapped begun after_read changed committed abandoned advanced taken applied deleted cut swept
rows_accepted (Load d f kd v) lent p m = stay refl (λ b. absurd (true≢false (sym b ∙ not_met _ _ m.1.0)))
rows_accepted (Map ky i qs) lent p m = stay refl (λ b. refl)
rows_accepted Begin lent p m = stay refl (λ b. refl)
rows_accepted (Read x ky) lent p m = stay refl (λ b. refl)
rows_accepted (Change x d f kd v) lent p m = stay refl (λ b. refl)
rows_accepted (Commit x) lent p m = stay refl (λ b. refl)
rows_accepted (Abandon x) lent p m = stay refl (λ b. refl)
rows_accepted (Advance i) lent p m = stay refl (λ b. refl)
rows_accepted (Take w) lent p m = stay refl (λ b. refl)
rows_accepted (Apply w fate) lent p m = go (fate_of fate) (not_met _ rows_full m.1.1.1.0)
  where
    n : ℕ
    n = handed (p.hands (nat_of w))

    good : below w worker_count ≡ true
    good = (and_true (below w worker_count) (good_fate fate) (not-false _ (not_met _ out_of_range m.0))).0

    is_full : full (p.hands (nat_of w)) ≡ true
    is_full = not-false _ (or_false _ _ (not_met _ wrong_hand m.1.0)).0

    old : Kept p → has n p.rows ≡ false → is_oldest n p.buffer ≡ true
    old k t = is_oldest_lem p.rows p.buffer (p.hands (nat_of w)) is_full t (k.hands (nat_of w) (below_is w worker_count good))

    go : (x : Fate) → same_case fate_number x arrives && no_room (nat_of w) p ≡ false → RowsAfter p (applied x (nat_of w) p)
    go arrives r = carry n refl refl (row_room n p.rows r) old
    go lost r = by_case (no_room (nat_of w) p) (λ t. rw t (stay refl (λ b. refl))) (λ t. rw t (carry n refl refl (row_room n p.rows t) old))
    go unreached r = stay refl (λ b. refl)
rows_accepted (Delete w) lent p m = stay refl (λ b. refl)
rows_accepted (Cut w) lent p m = stay refl (λ b. refl)
rows_accepted Sweep lent p m = fewer (λ n. not (has n (removed p))) refl refl
rows_accepted (Store i) lent p m = stay refl (λ b. refl)
rows_accepted (Report x) lent p m = stay refl (λ b. refl)

pub rows_after : (c : Call) (lent : List ℤ) (p : Plant) → RowsAfter p (step c lent p).plant
unfolding step
rows_after c lent p = go (first (conditions c lent p)) refl
  where
    ended : (x : Option ℕ) → RowsAfter p (ending x p)
    ended none = stay refl (λ b. refl)
    ended (some s) = stay refl (λ b. refl)

    go : (x : Option Refusal) → first (conditions c lent p) ≡ x → RowsAfter p (settle x c lent p).plant
    go none e = rows_accepted c lent p (none_met (conditions c lent p) e)
    go (some r) e = by_case (ends_session r) (λ t. rw t (ended (session_of c))) (λ t. rw t (stay refl (λ b. refl)))

-- ── a row comes with the transaction of its session ──
came_carried : (n m : ℕ) (p q : Plant) → q.store ≡ (carried m p).store → q.rows ≡ (carried m p).rows → (has m p.rows ≡ false → length p.rows < row_limit)
    → (has m p.rows ≡ false → is_oldest m p.buffer ≡ true) → has n q.rows ≡ true → has n p.rows ≡ false → Carries n p q
unfolding carried
came_carried n m p q es er r o h e =
    by_case (has m p.rows) (λ t. absurd (true≢false (sym (rw t at there) ∙ e)))
    (λ t. by_case (eqb n m) (λ v. subst (λ i. Carries i p q) (sym (eqb-true n m v)) (carries m p q es er t (o t) (r t)))
    (λ v. absurd (true≢false (sym (rw (t, pushed_room row_limit p.rows m (r t)) at there) ∙ has_snoc_false n m p.rows e v))))
  where
    there : has n (carried m p).rows ≡ true
    there = sym (ap (has n) er) ∙ h

pub came_after : (n : ℕ) (p q : Plant) → Kept p → RowsAfter p q → has n q.rows ≡ true → has n p.rows ≡ false → Carries n p q
came_after n p q k (stay e s) h u = absurd (true≢false (sym h ∙ ap (has n) e ∙ u))
came_after n p q k (fewer f e s) h u = absurd (true≢false (sym h ∙ ap (has n) e ∙ has-keep-false f n p.rows u))
came_after n p q k (carry m es er r o) h u = came_carried n m p q es er r (o k) h u

-- so it was not spent: buffered, it had no row
pub came_unspent : {n : ℕ} {p q : Plant} → Carries n p q → Spent n p → ⊥
came_unspent {n} {p} c s = true≢false (sym (s.row (ap (is_buffered n) c.oldest ∙ rw (c.number, self n) refl)) ∙ c.no_row)
