-- The numbers that calls answer are those of the tables they leave, on every plant that keeps the rules.
use Prim.Native.Nat.{◌<◌, min, ℕ}
use mathlib.Core.Path.{◌∙◌, ◌≡◌, ap, refl, subst, sym}
use mathlib.Core.Bool.{◌&&◌, cond, false, not, true}
use mathlib.Core.List.{List, [], ◌++◌, ◌∷◌}
use lib.ListN.{length, length-take}
use lib.Dec.{leb}
use lib.IntN.{ℤ}
use borrow.Author.Tests.{leb-false, not-false}
use Rattle.rules.specs.Lists.{keep, any, has, upto, bit}
use Rattle.rules.specs.Limits.{slot_limit, change_limit, sweep_limit, worker_count}
use Rattle.rules.specs.Refusals.{out_of_range, wrong_hand}
use Rattle.rules.specs.Values.{below, nat_of}
use Rattle.rules.specs.Changes.{Update, place_of, update_of}
use Rattle.rules.specs.Tables.{free, doomed_session, has_slot, session, numbers_of, is_buffered, full, replied, Plant, removable}
use Rattle.rules.specs.Calls.{unreached, fate_number, fates, fate_of, Call, Load, Map, Begin, Read, Change, Commit, Abandon, Advance, Take, Apply, Delete, Cut, Sweep, Store, Report}
use Rattle.rules.specs.Conditions.{own, good_fate, conditions}
use Rattle.rules.specs.Effects.{opened, room, begun, mark, after_read, advanced, removed, swept}
use Rattle.rules.specs.Step.{accepted}
use Rattle.rules.specs.Answers.{Opens, may_go, Sweeps}
use Rattle.rules.specs.Claims.{Counts, AnswersCount}
use Rattle.rules.proofs.Laws.{self, not_met, NoneMet, or_false, and_true, below_is, pushed_room}
use Rattle.rules.proofs.Steps.{step-fine, given, fine-none}
use Rattle.rules.proofs.Slots.{session_snoc, has_slot_lem}
use Rattle.rules.proofs.KeptParts.{Kept}
use Rattle.rules.proofs.Buffer.{has_left, is_oldest_lem, has_row, buffered_nums}
use Rattle.rules.proofs.InOrder.{keep_same}
use Rattle.rules.proofs.Sweeping.{parted, row_in_hands}
use Rattle.rules.proofs.Answered.{begin_counts, marks, changed_count, changed-length, commit_ends, abandon_ends, buffers, takes, cut_empties, case_is, hand_is, held, heard, delete_empties, deletes, report_leaves}
use Rattle.rules.proofs.KeptSlots.{room_fits, slots_room, no_next}
use Rattle.rules.proofs.KeptTables.{not_next, nums_good}
use Rattle.rules.proofs.KeptTest.{kept_iff}

-- begin: the session answered has a slot, is live, without leases or changes, and begins now
pub begun-slot : (p : Plant) → leb slot_limit (length p.slots) && not (any (λ s. s.session.doomed) p.slots) ≡ false → Kept p
    → session p.next (begun p).slots ≡ record { begun = p.clock; doomed = false; lease = λ d. free; changes = [] }
unfolding begun
begun-slot p r k =
    ap (session p.next) (pushed_room slot_limit (room p.slots) (opened p.next p.clock) (room_fits p.slots k.slots.few r))
    ∙ session_snoc p.next (room p.slots) (opened p.next p.clock)
    ∙ ap (λ b. cond b (session p.next (room p.slots)) (session p.next (opened p.next p.clock ∷ [])))
    (no_next p.next (room p.slots) (slots_room k.slots).numbers)
    ∙ ap (λ b. cond b (opened p.next p.clock).session doomed_session) (self p.next)

pub opens : (p : Plant) → leb slot_limit (length p.slots) && not (any (λ s. s.session.doomed) p.slots) ≡ false → Kept p
    → Opens p.next p (begun p)
opens p r k =
    record {
      no_slot = no_next p.next p.slots k.slots.numbers;
      not_buffered = buffered_nums p.next p.buffer ∙ not_next p.next (numbers_of p.buffer) (nums_good p.next p.buffer k.buffer.ok);
      no_row = not_next p.next p.rows k.rows.numbers;
      new = begun-slot p r k;
    }

-- sweep: the first rows that need not stay are gone, as many as answered
pub sweeps : (p : Plant) → Kept p → Sweeps (length (removed p)) p (swept p)
unfolding swept
sweeps p k =
    let r = parted (removable p) sweep_limit p.rows k.rows.once in
    let in_first : (m : ℕ) → has m r.first ≡ true → has m p.rows ≡ true = λ m h. ap (has m) r.split ∙ has_left m r.first r.rest h in
    record {
      number = length-take sweep_limit (keep (removable p) p.rows) ∙ ap (λ l. min sweep_limit (length l)) (keep_same (removable p) (may_go p) p.rows same);
      first = r.first;
      rest = r.rest;
      split = r.split;
      gone = sym (r.gone ∙ ap length (keep_same (removable p) (may_go p) r.first (λ m h. same m (in_first m h))));
      left = r.left ∙ ap (λ l. l ++ r.rest) (keep_same (λ m. not (removable p m)) (λ m. not (may_go p m)) r.first (λ m h. ap not (same m (in_first m h))));
    }
  where
    same : (m : ℕ) → has m p.rows ≡ true → removable p m ≡ may_go p m
    same m h = rw (buffered_nums m p.buffer, row_in_hands m p k h (upto worker_count)) refl

-- ── every call ──
counts_accepted : (c : Call) (lent : List ℤ) (p : Plant) → NoneMet (conditions c lent p) → Kept p
    → Counts c p (given (accepted c lent p).answer) (accepted c lent p).plant
unfolding accepted conditions after_read advanced
counts_accepted (Load d f kd v) lent p m k = refl
counts_accepted (Map ky n qs) lent p m k = refl
counts_accepted Begin lent p m k = (refl, begin_counts p, opens p (not_met _ _ m.1.0) k)
counts_accepted (Read s ky) lent p m k =
    (mark (nat_of s) (nat_of ky) p, refl, marks (nat_of s) (nat_of ky) p k.cache.few)
counts_accepted (Change s d f kd v) lent p m k =
    (ap (λ n. n ∷ []) (sym (changed-length (nat_of s) c p few slot)), changed_count (nat_of s) c p few slot)
  where
    c : Update
    c = update_of (place_of d f) (nat_of kd) v

    few : length (own s p) < change_limit
    few = leb-false change_limit (length (own s p)) (not_met _ _ m.1.1.1.0)

    slot : has_slot (nat_of s) p.slots ≡ true
    slot = has_slot_lem (nat_of s) p.slots (not_met _ _ m.1.1.0)
counts_accepted (Commit s) lent p m k = (refl, buffers (nat_of s) p (not_met _ _ m.1.1.0), commit_ends (nat_of s) p)
counts_accepted (Abandon s) lent p m k = (refl, abandon_ends (nat_of s) p)
counts_accepted (Advance n) lent p m k = (refl, refl)
counts_accepted (Take w) lent p m k = takes (nat_of w) p (not_met _ _ m.1.1.1.0)
counts_accepted (Apply w fate) lent p m k =
    heard (fate_of fate) (nat_of w) fate p (case_is fate_number unreached fates fate good.1) (hand_is (p.hands (nat_of w)) false is_full hand.1)
    (λ e. is_oldest_lem p.rows p.buffer (p.hands (nat_of w)) is_full e (k.hands (nat_of w) (below_is w worker_count good.0))) k.rows.few
    (not_met _ _ m.1.1.1.0)
  where
    good : (below w worker_count ≡ true) × (good_fate fate ≡ true)
    good = and_true (below w worker_count) (good_fate fate) (not-false _ (not_met _ out_of_range m.0))

    hand : (not (full (p.hands (nat_of w))) ≡ false) × (replied (p.hands (nat_of w)) ≡ false)
    hand = or_false _ _ (not_met _ wrong_hand m.1.0)

    is_full : full (p.hands (nat_of w)) ≡ true
    is_full = not-false _ hand.0
counts_accepted (Delete w) lent p m k = (
  is_buffered (held (nat_of w) p) p.buffer,
  held (nat_of w) p,
  refl,
  hand_is (p.hands (nat_of w)) true hand.0 hand.1,
  delete_empties (nat_of w) p,
  deletes (nat_of w) p
      (has_row p.rows p.buffer (p.hands (nat_of w)) hand.0 hand.1 (k.hands (nat_of w) (below_is w worker_count (not-false _ (not_met _ _ m.0)))))
      k.buffer.tail,
)
  where
    hand : (full (p.hands (nat_of w)) ≡ true) × (replied (p.hands (nat_of w)) ≡ true)
    hand = and_true (full (p.hands (nat_of w))) (replied (p.hands (nat_of w))) (not-false _ (not_met _ wrong_hand m.1.0))
counts_accepted (Cut w) lent p m k = (refl, cut_empties (nat_of w) p)
counts_accepted Sweep lent p m k = (length (removed p), refl, sweeps p k)
counts_accepted (Store n) lent p m k = (refl, case_is bit false (true ∷ false ∷ []) n (not-false _ (not_met _ _ m.0)))
counts_accepted (Report s) lent p m k = (report_leaves s lent p, refl)

pub answers_count_lem : AnswersCount
answers_count_lem c lent p ns k e =
    let m = fine-none c lent p ns e in
    let q = step-fine c lent p m in
    subst (λ o. Counts c p ns o.plant) (sym q)
    (subst (λ l. Counts c p l (accepted c lent p).plant) (ap given (sym (ap (λ o. o.answer) q) ∙ e))
    (counts_accepted c lent p m ((kept_iff p).0 k)))
