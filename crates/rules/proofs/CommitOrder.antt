-- What the history has buffered stands in commit order: a committed session's number has no slot and is never used again.
use Prim.Native.Nat.{◌+◌, ◌<◌, suc, ℕ}
use native.Mathlib.Omega.{arith}
use mathlib.Core.Path.{◌∙◌, ◌≡◌, ap, refl, sym}
use mathlib.Core.Bool.{Bool, ◌&&◌, cond, false, not, true, true≢false}
use mathlib.Core.Option.{Option, none, some}
use mathlib.Core.List.{List, [], ◌++◌, ◌∷◌, append-nil, map, map-append}
use lib.ListN.{length}
use lib.Dec.{eqb, leb, ltb}
use lib.IntN.{ℤ}
use borrow.Author.Tests.{lt-ltb, ltb-true, ne_eqb, not-true}
use Rattle.rules.specs.Lists.{keep, all, has, without, InOrder}
use Rattle.rules.specs.Limits.{slot_limit}
use Rattle.rules.specs.Refusals.{Refusal, ends_session, first}
use Rattle.rules.specs.Values.{nat_of}
use Rattle.rules.specs.Changes.{place_of, update_of}
use Rattle.rules.specs.Tables.{Session, Slot, has_slot, each, freed, handed, Plant, setup}
use Rattle.rules.specs.Calls.{Fate, arrives, lost, unreached, fate_of, Call, Load, Map, Begin, Read, Change, Commit, Abandon, Advance, Take, Apply, Delete, Cut, Sweep, Store, Report}
use Rattle.rules.specs.Conditions.{no_room, conditions}
use Rattle.rules.specs.Effects.{loaded, mapped, opened, first_doomed, room, begun, with_shared, only_at, after_read, grant, changed, committed, abandoned, lapse, advanced, taken, carried, applied, deleted, cut, swept}
use Rattle.rules.specs.Step.{accepted, session_of, ending, after_refusal, settle, step}
use Rattle.rules.specs.Kept.{good_number}
use Rattle.rules.specs.History.{changes_nothing, Committed, History, empty_history, note, note_answer, Turn, World, turn, turns, initial}
use Rattle.rules.proofs.Laws.{by_case, self, not_met, NoneMet, none_met, or_zero_lem, and_true, pushed_room}
use Rattle.rules.proofs.Tests.{all_imp, all_snoc}
use Rattle.rules.proofs.Slots.{has_slot-each, has_slot-freed, has_slot_snoc, has_slot_lem}
use Rattle.rules.proofs.KeptParts.{Kept}
use Rattle.rules.proofs.Buffer.{has_append, has_last, not_swept, and_false, carried_slots, carried_next}
use Rattle.rules.proofs.InOrder.{keep_append, keep-keep, keep_same, has-without, in_order_has}
use Rattle.rules.proofs.KeptSlots.{room_fits}
use Rattle.rules.proofs.KeptSetup.{number_look}
use Rattle.rules.proofs.Kept.{step_keeps_lem}

abbrev pub numbers_in : List Committed → List ℕ
numbers_in = map (λ x. x.number)

-- a number that is spent and has no slot
abbrev pub is_gone : ℕ → List Slot → ℕ → Bool
is_gone next slots n = ltb n next && not (has_slot n slots)

pub record Order (commits : List Committed) (buffered : List ℕ) (next : ℕ) (slots : List Slot) : Type 0 where
  pub gone : all (is_gone next slots) (numbers_in commits) ≡ true
  pub order : InOrder buffered (numbers_in commits)

abbrev pub OrderAt : History → Plant → Type 0
OrderAt h p = Order h.commits h.buffered p.next p.slots

module _ (n next : ℕ) (slots : List Slot) (e : is_gone next slots n ≡ true) where
  spent : n < next
  spent = ltb-true n next (and_true (ltb n next) (not (has_slot n slots)) e).0

  pub slotless : has_slot n slots ≡ false
  slotless = not-true (has_slot n slots) (and_true (ltb n next) (not (has_slot n slots)) e).1

  -- ── it stays so ──
  pub gone-freed : (s : ℕ) → is_gone next (freed s slots) n ≡ true
  gone-freed s = rw (lt-ltb n next spent, has_slot-freed s n slots, slotless) (by_case (eqb n s) (λ t. rw t) (λ t. rw t))

  pub gone-each : (f : ℕ → Session → Session) → is_gone next (each f slots) n ≡ true
  gone-each f = rw (lt-ltb n next spent, has_slot-each f n slots, slotless) refl

  pub gone-begun : (clock : ℕ) → is_gone (suc next) (slots ++ (opened next clock ∷ [])) n ≡ true
  gone-begun clock = rw (lt-ltb n (suc next) (omega (arith, spent)), has_slot_snoc n slots (opened next clock), slotless, ne_eqb n next (λ q. less n next spent q)) refl
    where
      less : (a b : ℕ) → a < b → a ≡ b → ⊥
      less a b u v = omega arith

not-gone : (next : ℕ) (slots : List Slot) (s : ℕ) (l : List ℕ) → all (is_gone next slots) l ≡ true → has_slot s slots ≡ true → has s l ≡ false
not-gone next slots s l a h = not_swept (is_gone next slots) s l a (rw h (and_false (ltb s next) false refl))

-- ── the slots change ──
module _ {commits : List Committed} {buffered : List ℕ} {next : ℕ} {slots : List Slot} (o : Order commits buffered next slots) where
  order_slots : (next' : ℕ) (slots' : List Slot) → ((n : ℕ) → is_gone next slots n ≡ true → is_gone next' slots' n ≡ true) → Order commits buffered next' slots'
  order_slots next' slots' h = record { gone = all_imp (is_gone next slots) (is_gone next' slots') h (numbers_in commits) o.gone; order = o.order }

  pub order-freed : (s : ℕ) → Order commits buffered next (freed s slots)
  order-freed s = order_slots next (freed s slots) (λ n e. gone-freed n next slots e s)

  pub order-each : (f : ℕ → Session → Session) → Order commits buffered next (each f slots)
  order-each f = order_slots next (each f slots) (λ n e. gone-each n next slots e f)

  pub order-begun : (clock : ℕ) → Order commits buffered (suc next) (slots ++ (opened next clock ∷ []))
  order-begun clock = order_slots (suc next) (slots ++ (opened next clock ∷ [])) (λ n e. gone-begun n next slots e clock)

  -- ── a session commits, a buffered one is deleted ──
  pub order_commit : (x : Committed) → has_slot x.number slots ≡ true → ltb x.number next ≡ true
      → Order (commits ++ (x ∷ [])) (cond (changes_nothing x.page) buffered (buffered ++ (x.number ∷ []))) next (freed x.number slots)
  order_commit x h lt =
      record {
        gone =
            rw numbers (all_snoc (is_gone next (freed s slots)) (numbers_in commits) s (order-freed s).gone
            (rw (lt, has_slot-freed s s slots, self s) refl));
        order = by_case (changes_nothing x.page) (λ e. rw (e, numbers) quiet) (λ e. rw (e, numbers) changing);
      }
    where
      s : ℕ
      s = x.number

      numbers : numbers_in (commits ++ (x ∷ [])) ≡ numbers_in commits ++ (s ∷ [])
      numbers = map-append (λ y. y.number) commits (x ∷ [])

      new : has s (numbers_in commits) ≡ false
      new = not-gone next slots s (numbers_in commits) o.gone h

      unbuffered : has s buffered ≡ false
      unbuffered = in_order_has buffered (numbers_in commits) s o.order new

      quiet : InOrder buffered (numbers_in commits ++ (s ∷ []))
      quiet =
          o.order
          ∙ sym (keep_append (λ n. has n buffered) (numbers_in commits) (s ∷ []) ∙ ap
          (λ b. keep (λ n. has n buffered) (numbers_in commits) ++ cond b (s ∷ []) []) unbuffered ∙ append-nil
          (keep (λ n. has n buffered) (numbers_in commits)))

      other : (n : ℕ) → has n (numbers_in commits) ≡ true → has n (buffered ++ (s ∷ [])) ≡ has n buffered
      other n e =
          has_append n buffered (s ∷ []) ∙ rw (ne_eqb n s (λ q. true≢false (sym e ∙ ap (λ m. has m (numbers_in commits)) q ∙ new)))
          (or_zero_lem (has n buffered))

      changing : InOrder (buffered ++ (s ∷ [])) (numbers_in commits ++ (s ∷ []))
      changing =
          ap (λ l. l ++ (s ∷ [])) (o.order ∙ sym (keep_same (λ n. has n (buffered ++ (s ∷ []))) (λ n. has n buffered) (numbers_in commits) other))
          ∙ sym (keep_append (λ n. has n (buffered ++ (s ∷ []))) (numbers_in commits) (s ∷ []) ∙ ap
          (λ b. keep (λ n. has n (buffered ++ (s ∷ []))) (numbers_in commits) ++ cond b (s ∷ []) []) (has_last s buffered))

  pub order_delete : (n : ℕ) → Order commits (without n buffered) next slots
  order_delete n =
      record {
        gone = o.gone;
        order = ap (without n) o.order ∙ keep-keep (λ m. not (eqb n m)) (λ m. has m buffered) (numbers_in commits)
            ∙ keep_same (λ m. has m buffered && not (eqb n m)) (λ m. has m (without n buffered)) (numbers_in commits)
            (λ m e. sym (has-without n m buffered));
      }

-- ── every call ──
order-accepted : (c : Call) (lent : List ℤ) (h : History) (p : Plant) → NoneMet (conditions c lent p) → Kept p → OrderAt h p
    → OrderAt (note_answer c (accepted c lent p).answer (accepted c lent p).words h) (accepted c lent p).plant
unfolding accepted conditions note loaded mapped begun after_read changed committed abandoned advanced taken applied deleted cut swept
order-accepted (Load d f kd v) lent h p m k o = o
order-accepted (Map ky n qs) lent h p m k o = o
order-accepted Begin lent h p m k o =
    rw (pushed_room slot_limit (room p.slots) (opened p.next p.clock) (room_fits p.slots k.slots.few (not_met _ _ m.1.0)))
    (order-begun with_room p.clock)
  where
    with_room : Order h.commits h.buffered p.next (room p.slots)
    with_room = by_case (leb slot_limit (length p.slots)) (λ e. rw e (order-freed o (first_doomed p.slots))) (λ e. rw e o)
order-accepted (Read s ky) lent h p m k o = order-each o (only_at (nat_of s) (with_shared p.clock (p.keys (nat_of ky))))
order-accepted (Change s d f kd v) lent h p m k o = order-each o (grant p.clock (nat_of s) (update_of (place_of d f) (nat_of kd) v))
order-accepted (Commit s) lent h p m k o =
    order_commit o (record { number = nat_of s; page = h.page (nat_of s) }) there
    (and_true (leb 1 (nat_of s)) (ltb (nat_of s) p.next) (number_look (good_number p.next) (nat_of s) p.slots k.slots.numbers there)).1
  where
    there : has_slot (nat_of s) p.slots ≡ true
    there = has_slot_lem (nat_of s) p.slots (not_met _ _ m.1.0)
order-accepted (Abandon s) lent h p m k o = order-freed o (nat_of s)
order-accepted (Advance n) lent h p m k o = order-each o (lapse (p.clock + nat_of n))
order-accepted (Take w) lent h p m k o = o
order-accepted (Apply w fate) lent h p m k o = go (fate_of fate)
  where
    there : OrderAt h (carried (handed (p.hands (nat_of w))) p)
    there = rw (carried_slots (handed (p.hands (nat_of w))) p, carried_next (handed (p.hands (nat_of w))) p) o

    go : (x : Fate) → OrderAt h (applied x (nat_of w) p)
    go arrives = there
    go lost = by_case (no_room (nat_of w) p) (λ e. rw e o) (λ e. rw e there)
    go unreached = o
order-accepted (Delete w) lent h p m k o = order_delete o _
order-accepted (Cut w) lent h p m k o = o
order-accepted Sweep lent h p m k o = o
order-accepted (Store n) lent h p m k o = o
order-accepted (Report s) lent h p m k o = o

order_refused : (h : History) (p : Plant) (c : Call) (r : Refusal) → OrderAt h p → OrderAt h (after_refusal c r p)
order_refused h p c r o = by_case (ends_session r) (λ e. rw e (go (session_of c))) (λ e. rw e o)
  where
    go : (x : Option ℕ) → OrderAt h (ending x p)
    go none = o
    go (some s) = order-freed o s

pub order-step : (c : Call) (lent : List ℤ) (h : History) (p : Plant) → Kept p → OrderAt h p
    → OrderAt (note_answer c (step c lent p).answer (step c lent p).words h) (step c lent p).plant
unfolding step
order-step c lent h p k o = go (first (conditions c lent p)) refl
  where
    go : (x : Option Refusal) → first (conditions c lent p) ≡ x
        → OrderAt (note_answer c (settle x c lent p).answer (settle x c lent p).words h) (settle x c lent p).plant
    go none e = order-accepted c lent h p (none_met (conditions c lent p) e) k o
    go (some r) e = order_refused h p c r o

pub order-turns : (ts : List Turn) (w : World) → Kept w.plant → OrderAt w.history w.plant
    → OrderAt (turns ts w).history (turns ts w).plant
order-turns [] w k o = o
order-turns (t ∷ ts) w k o =
    order-turns ts (turn t w) (step_keeps_lem t.call t.lent w.plant k)
    (order-step t.call t.lent w.history w.plant k o)

pub order-initial : OrderAt initial.history initial.plant
unfolding initial setup empty_history
order-initial = record { gone = refl; order = refl }
