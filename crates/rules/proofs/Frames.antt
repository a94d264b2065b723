-- What a call may write: the tables of the plant, and the caller's words.
use Prim.Native.Nat.{◌*◌, ℕ}
use native.Mathlib.Omega.{arith}
use mathlib.Core.Path.{◌∙◌, ◌≡◌, ap, ap₂, fun_ext, refl, sym}
use mathlib.Core.Bool.{false, true}
use mathlib.Core.Option.{Option, none, some}
use mathlib.Core.List.{List, [], ◌++◌, ◌∷◌, map}
use lib.ListN.{drop, length, length-append, length-drop}
use lib.Dec.{eqb, ltb}
use lib.IntN.{ℤ}
use borrow.Author.Tests.{eqb-true, ltb-false}
use Rattle.rules.specs.Lists.{pushed, override, has}
use Rattle.rules.specs.Limits.{row_limit, words_per_field}
use Rattle.rules.specs.Refusals.{Refusal, ends_session, first}
use Rattle.rules.specs.Values.{nat_of, Place, Stock, show_all}
use Rattle.rules.specs.Changes.{follow}
use Rattle.rules.specs.Tables.{oldest, batch_of, unbuffer, Hand, empty, holds, handed, leased, Plant, with_store, with_buffer, with_rows, with_hands, with_hand, with_queue}
use Rattle.rules.specs.Reading.{seen}
use Rattle.rules.specs.Calls.{Fate, arrives, lost, unreached, fate_of, Call, Load, Map, Begin, Read, Change, Commit, Abandon, Advance, Take, Apply, Delete, Cut, Sweep, Store, Report, reply_number, fine}
use Rattle.rules.specs.Conditions.{own, no_room, conditions}
use Rattle.rules.specs.Effects.{loaded, mapped, begun, after_read, changed, committed, abandoned, advanced, taken, carried, applied, ended, orphaned, deleted, cut, swept}
use Rattle.rules.specs.Step.{accepted, after_refusal, settle, step}
use Rattle.rules.specs.Claims.{Writes, WritesOnly, Fills, FillsOnly, CommitLeavesStore, LeaseUnseen}
use Rattle.rules.proofs.Laws.{by_case, self, not_met, NoneMet, none_met}
use Rattle.rules.proofs.Words.{length-show_all}
use Rattle.rules.proofs.Answered.{asks_unseen, applied_unseen, reply_unseen}

-- ── hands ──
override_same : {A : Type 0} (f : ℕ → A) (w : ℕ) → override f w (f w) ≡ f
override_same f w = fun_ext (λ m. by_case (eqb m w) (λ e. rw (e, eqb-true m w e)) (λ e. rw e))

-- a plant is itself with any of its hands put back
hand_kept : (w : ℕ) (p : Plant) → p ≡ with_hand w (p.hands w) p
hand_kept w p = ap (λ (h : ℕ → Hand). with_hands h p) (sym (override_same p.hands w))

-- the hand that was put in is the one that stands there
hand_put : (w : ℕ) (h : Hand) (p : Plant) → with_hand w h p ≡ with_hand w ((with_hand w h p).hands w) p
hand_put w h p = ap (λ (x : Hand). with_hand w x p) (sym (rw (self w)))

-- ── accepted ──
carried_only : (n w : ℕ) (p : Plant) → carried n p ≡ with_hand w ((carried n p).hands w) (with_store (carried n p).store (with_rows (carried n p).rows p))
unfolding carried
carried_only n w p =
    by_case (has n p.rows) (λ e. rw e (hand_kept w p))
    (λ e. rw e (hand_kept w (with_store (follow p.store (batch_of n p.buffer)) (with_rows (pushed row_limit p.rows n) p))))

answered_only : (n w : ℕ) (h : Hand) (p : Plant) → with_hand w h (carried n p) ≡ with_hand w ((with_hand w h (carried n p)).hands w) (with_store (carried n p).store (with_rows (carried n p).rows p))
unfolding carried
answered_only n w h p =
    by_case (has n p.rows) (λ e. rw e (hand_put w h p))
    (λ e. rw e (hand_put w h (with_store (follow p.store (batch_of n p.buffer)) (with_rows (pushed row_limit p.rows n) p))))

pub applied_only : (x : Fate) (w : ℕ) (p : Plant) → applied x w p ≡ with_hand w ((applied x w p).hands w) (with_store (applied x w p).store (with_rows (applied x w p).rows p))
unfolding applied
applied_only arrives w p = answered_only (handed (p.hands w)) w (holds (handed (p.hands w)) true) p
applied_only lost w p = by_case (no_room w p) (λ e. rw e (hand_kept w p)) (λ e. rw e (carried_only (handed (p.hands w)) w p))
applied_only unreached w p = hand_kept w p

writes_accepted : (c : Call) (lent : List ℤ) (p : Plant) → Writes c p (accepted c lent p).plant
unfolding accepted loaded mapped begun after_read changed committed abandoned advanced taken deleted cut swept
writes_accepted (Load d f kd v) lent p = refl
writes_accepted (Map ky n qs) lent p = refl
writes_accepted Begin lent p = refl
writes_accepted (Read s ky) lent p = refl
writes_accepted (Change s d f kd v) lent p = refl
writes_accepted (Commit s) lent p = refl
writes_accepted (Abandon s) lent p = refl
writes_accepted (Advance n) lent p = refl
writes_accepted (Take w) lent p = hand_put (nat_of w) (holds (oldest p.buffer) false) (with_queue (leased (some (nat_of w)) p.clock) p)
writes_accepted (Apply w fate) lent p = applied_only (fate_of fate) (nat_of w) p
writes_accepted (Delete w) lent p =
    ap (with_buffer (unbuffer (handed (p.hands (nat_of w))) p.buffer)) (hand_put (nat_of w) empty (with_queue (ended (nat_of w) p.queue) p))
writes_accepted (Cut w) lent p = hand_put (nat_of w) empty (with_queue (orphaned (nat_of w) p.queue) p)
writes_accepted Sweep lent p = refl
writes_accepted (Store n) lent p = refl
writes_accepted (Report s) lent p = refl

-- ── refused ──
writes_refused : (c : Call) (r : Refusal) (p : Plant) → Writes c p (after_refusal c r p)
writes_refused (Load d f kd v) r p = by_case (ends_session r) (λ e. rw e) (λ e. rw e)
writes_refused (Map ky n qs) r p = by_case (ends_session r) (λ e. rw e) (λ e. rw e)
writes_refused Begin r p = by_case (ends_session r) (λ e. rw e) (λ e. rw e)
writes_refused (Read s ky) r p = by_case (ends_session r) (λ e. rw e) (λ e. rw e)
writes_refused (Change s d f kd v) r p = by_case (ends_session r) (λ e. rw e) (λ e. rw e)
writes_refused (Commit s) r p = by_case (ends_session r) (λ e. rw e) (λ e. rw e)
writes_refused (Abandon s) r p = by_case (ends_session r) (λ e. rw e) (λ e. rw e)
writes_refused (Advance n) r p = by_case (ends_session r) (λ e. rw e) (λ e. rw e)
writes_refused (Take w) r p = by_case (ends_session r) (λ e. rw e (hand_kept (nat_of w) p)) (λ e. rw e (hand_kept (nat_of w) p))
writes_refused (Apply w fate) r p = by_case (ends_session r) (λ e. rw e (hand_kept (nat_of w) p)) (λ e. rw e (hand_kept (nat_of w) p))
writes_refused (Delete w) r p = by_case (ends_session r) (λ e. rw e (hand_kept (nat_of w) p)) (λ e. rw e (hand_kept (nat_of w) p))
writes_refused (Cut w) r p = by_case (ends_session r) (λ e. rw e (hand_kept (nat_of w) p)) (λ e. rw e (hand_kept (nat_of w) p))
writes_refused Sweep r p = by_case (ends_session r) (λ e. rw e) (λ e. rw e)
writes_refused (Store n) r p = by_case (ends_session r) (λ e. rw e) (λ e. rw e)
writes_refused (Report s) r p = by_case (ends_session r) (λ e. rw e) (λ e. rw e)

pub writes_only_lem : WritesOnly
unfolding step
writes_only_lem c lent p = go (first (conditions c lent p))
  where
    go : (o : Option Refusal) → Writes c p (settle o c lent p).plant
    go none = writes_accepted c lent p
    go (some r) = writes_refused c r p

pub commit_leaves_store_lem : CommitLeavesStore
commit_leaves_store_lem s lent p = (ap (λ q. q.store) (writes_only_lem (Commit s) lent p), ap (λ q. q.rows) (writes_only_lem (Commit s) lent p))

-- ── apply under another queue lease ──
pub lease_unseen_lem : LeaseUnseen
unfolding step accepted
lease_unseen_lem w fate lent p other = rw (asks_unseen w fate lent p other) (go (first (conditions (Apply w fate) lent p)))
  where
    go : (o : Option Refusal) → settle o (Apply w fate) lent (with_queue other p)
        ≡ record {
          answer = (settle o (Apply w fate) lent p).answer;
          words = (settle o (Apply w fate) lent p).words;
          plant = with_queue other (settle o (Apply w fate) lent p).plant;
        }
    go none =
        ap₂ (λ r q. record { answer = fine (reply_number r ∷ []); words = lent; plant = q }) (reply_unseen (fate_of fate) (nat_of w) p other)
        (applied_unseen (fate_of fate) (nat_of w) p other)
    go (some r) = by_case (ends_session r) (λ e. rw e) (λ e. rw e)

-- ── the words ──
fills_same : (c : Call) (lent : List ℤ) → Fills c lent lent
fills_same (Load d f kd v) lent = refl
fills_same (Map ky n qs) lent = refl
fills_same Begin lent = refl
fills_same (Read s ky) lent = refl
fills_same (Change s d f kd v) lent = refl
fills_same (Commit s) lent = refl
fills_same (Abandon s) lent = refl
fills_same (Advance n) lent = refl
fills_same (Take w) lent = refl
fills_same (Apply w fate) lent = refl
fills_same (Delete w) lent = refl
fills_same (Cut w) lent = refl
fills_same Sweep lent = refl
fills_same (Store n) lent = refl
fills_same (Report s) lent = refl

fills_read : (s : Stock) (qs : List Place) (lent : List ℤ) → ltb (length lent) (words_per_field * length qs) ≡ false
    → length (show_all (map s qs) ++ drop (words_per_field * length qs) lent) ≡ length lent
fills_read s qs lent e =
    length-append (show_all (map s qs)) (drop (words_per_field * length qs) lent)
    ∙ rw (length-show_all s qs, length-drop (words_per_field * length qs) lent) (omega (arith, ltb-false (length lent) (words_per_field * length qs) e))

fills_accepted : (c : Call) (lent : List ℤ) (p : Plant) → NoneMet (conditions c lent p) → Fills c lent (accepted c lent p).words
unfolding accepted conditions
fills_accepted (Load d f kd v) lent p m = refl
fills_accepted (Map ky n qs) lent p m = refl
fills_accepted Begin lent p m = refl
fills_accepted (Read s ky) lent p m = fills_read (seen p (own s p)) (p.keys (nat_of ky)) lent (not_met _ _ m.1.1.1.1.0)
fills_accepted (Change s d f kd v) lent p m = refl
fills_accepted (Commit s) lent p m = refl
fills_accepted (Abandon s) lent p m = refl
fills_accepted (Advance n) lent p m = refl
fills_accepted (Take w) lent p m = refl
fills_accepted (Apply w fate) lent p m = refl
fills_accepted (Delete w) lent p m = refl
fills_accepted (Cut w) lent p m = refl
fills_accepted Sweep lent p m = refl
fills_accepted (Store n) lent p m = refl
fills_accepted (Report s) lent p m = refl

pub fills_only_lem : FillsOnly
unfolding step
fills_only_lem c lent p = go (first (conditions c lent p)) refl
  where
    go : (o : Option Refusal) → first (conditions c lent p) ≡ o → Fills c lent (settle o c lent p).words
    go none e = fills_accepted c lent p (none_met (conditions c lent p) e)
    go (some r) e = fills_same c lent
