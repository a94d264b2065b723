-- Before the drain: a cut, advances and store 1 are not refused and leave a worker ready.
use Prim.Native.Nat.{◌+◌, ◌<◌, ◌≤◌, ℕ}
use native.Mathlib.Omega.{arith}
use mathlib.Core.Path.{◌∙◌, ◌≡◌, refl, sym}
use mathlib.Core.Bool.{Bool, ◌||◌, cond, false, true}
use mathlib.Core.List.{List, [], ◌++◌, ◌∷◌, head-eq_of_cons-eq, map, nil≢cons, tail-eq_of_cons-eq}
use lib.Dec.{leb}
use lib.IntN.{pos, ℤ}
use borrow.Author.Tests.{le-ltb, lt-ltb}
use Rattle.rules.specs.Lists.{any}
use Rattle.rules.specs.Limits.{worker_count, lease_ticks, last_tick}
use Rattle.rules.specs.Refusals.{clock_end, ◌⇒◌}
use Rattle.rules.specs.Tables.{full, Queue, idle, leased, owned_by, Plant}
use Rattle.rules.specs.Calls.{Advance, Cut, Store}
use Rattle.rules.specs.Conditions.{conditions}
use Rattle.rules.specs.Effects.{lapsed_queue, advanced, orphaned, cut}
use Rattle.rules.specs.Step.{accepted, step}
use Rattle.rules.specs.History.{Turn, World, does, turn, turns}
use Rattle.rules.specs.Demand3.{Preparation, cut_worker, bring_near, wait, preparing, is_cut, is_near, ticks_of, ticks, calls_of, is_fine, NoneRefused}
use Rattle.rules.proofs.Laws.{by_case, self, or_one, or_zero_lem}
use Rattle.rules.proofs.Steps.{unmet, step-fine}

-- ── lists of turns ──
pub turns_append : (a b : List Turn) (w : World) → turns (a ++ b) w ≡ turns b (turns a w)
turns_append [] b w = refl
turns_append (t ∷ a) b w = turns_append a b (turn t w)

pub fine_append : (a b : List Turn) (w : World) → NoneRefused a w.plant → NoneRefused b (turns a w).plant → NoneRefused (a ++ b) w.plant
fine_append [] b w f g = g
fine_append (t ∷ a) b w f g = (f.0, fine_append a b (turn t w) f.1 g)

-- ── the way ──
-- a queue lease was taken in the past
abbrev pub Past : Queue → ℕ → Type 0
Past idle clock = Unit {0}
Past (leased o t) clock = t ≤ clock

pub past-orphaned : (w : ℕ) (q : Queue) (clock : ℕ) → Past q clock → Past (orphaned w q) clock
past-orphaned w idle clock h = tt
past-orphaned w (leased o t) clock h = by_case (owned_by w o) (λ e. rw e h) (λ e. rw e h)

pub past_lapsed : (now : ℕ) (q : Queue) (clock : ℕ) → Past q clock → Past (lapsed_queue now q) clock
past_lapsed now idle clock h = tt
past_lapsed now (leased o t) clock h = by_case (leb (t + lease_ticks) now) (λ e. rw e tt) (λ e. rw e h)

pub record Prepared (v n : ℕ) (c s : Bool) (p q : Plant) : Type 0 where
  pub buffer : q.buffer ≡ p.buffer
  pub clock : q.clock ≡ p.clock + n
  pub near : q.near ≡ p.near || s
  pub hand : full (q.hands v) ≡ cond c false (full (p.hands v))
  pub past : (k : ℕ) → Past p.queue k → Past q.queue k

pub prepare_advance : (v n : ℕ) (lent : List ℤ) (p : Plant) → n ≤ lease_ticks → p.clock + n ≤ last_tick
    → (is_fine (step (Advance (pos n)) lent p).answer ≡ true) × Prepared v n false false p (step (Advance (pos n)) lent p).plant
unfolding conditions accepted advanced ◌⇒◌
prepare_advance v n lent p h t =
    rw (step-fine (Advance (pos n)) lent p (rw (lt-ltb n 65536 (omega arith)), (unmet _ clock_end (le-ltb last_tick (p.clock + n) t), tt)))
    (refl, record { buffer = refl; clock = refl; near = sym (or_zero_lem p.near); hand = refl; past = λ k z. past_lapsed (p.clock + n) p.queue k z })

pub prepare_cut : (v : ℕ) (lent : List ℤ) (p : Plant) → v < worker_count
    → (is_fine (step (Cut (pos v)) lent p).answer ≡ true) × Prepared v 0 true false p (step (Cut (pos v)) lent p).plant
unfolding conditions accepted cut ◌⇒◌
prepare_cut v lent p lt =
    rw (step-fine (Cut (pos v)) lent p (rw (lt-ltb v worker_count lt), tt))
    (refl, record { buffer = refl; clock = omega arith; near = sym (or_zero_lem p.near); hand = rw (self v); past = λ k z. past-orphaned v p.queue k z })

pub prepare_near : (v : ℕ) (lent : List ℤ) (p : Plant)
    → (is_fine (step (Store (pos 1)) lent p).answer ≡ true) × Prepared v 0 false true p (step (Store (pos 1)) lent p).plant
unfolding conditions accepted ◌⇒◌
prepare_near v lent p =
    rw (step-fine (Store (pos 1)) lent p (refl, tt))
    (refl, record { buffer = refl; clock = omega arith; near = sym (or_one p.near); hand = refl; past = λ k z. z })

pub prepare_step : (v : ℕ) → v < worker_count → (x : Preparation) (lent : List ℤ) (p : Plant) → ticks_of x ≤ lease_ticks
    → p.clock + ticks_of x ≤ last_tick
    → (is_fine (step (preparing v x) lent p).answer ≡ true) × Prepared v (ticks_of x) (is_cut x) (is_near x) p
    (step (preparing v x) lent p).plant
prepare_step v lt cut_worker lent p h t = prepare_cut v lent p lt
prepare_step v lt bring_near lent p h t = prepare_near v lent p
prepare_step v lt (wait n) lent p h t = prepare_advance v n lent p h t

pub record PreparedAll (v : ℕ) (l : List Preparation) (ts : List Turn) (w : World) : Type 0 where
  pub none_refused : NoneRefused ts w.plant
  pub prepared : Prepared v (ticks l) (any is_cut l) (any is_near l) w.plant (turns ts w).plant

pub prepared_then : (v : ℕ) (n m : ℕ) (c d s t : Bool) (p q r : Plant) → Prepared v n c s p q → Prepared v m d t q r
    → Prepared v (n + m) (cond c true d) (cond s true t) p r
prepared_then v n m c d s t p q r a b =
    record {
      buffer = b.buffer ∙ a.buffer;
      clock = b.clock ∙ rw a.clock (omega arith);
      near = b.near ∙ rw a.near (both p.near s t);
      hand = b.hand ∙ rw a.hand (hands c d (full (p.hands v)));
      past = λ k z. b.past k (a.past k z);
    }
  where
    both : (x y z : Bool) → x || y || z ≡ x || cond y true z
    both true y z = refl
    both false true z = refl
    both false false z = refl

    hands : (x y z : Bool) → cond y false (cond x false z) ≡ cond (cond x true y) false z
    hands true true z = refl
    hands true false z = refl
    hands false y z = refl

pub prepare_run : (v : ℕ) → v < worker_count → (l : List Preparation) (ts : List Turn) (w : World) → calls_of ts ≡ map (preparing v) l
    → ticks l ≤ lease_ticks → w.plant.clock + ticks l ≤ last_tick
    → PreparedAll v l ts w
prepare_run v lt [] [] w c h t = record {
  none_refused = tt;
  prepared = record { buffer = refl; clock = omega arith; near = sym (or_zero_lem _); hand = refl; past = λ k z. z };
}
prepare_run v lt [] (u ∷ ts) w c h t = absurd (nil≢cons (sym c))
prepare_run v lt (x ∷ l) [] w c h t = absurd (nil≢cons c)
prepare_run v lt (x ∷ l) (u ∷ ts) w c h t =
    let s : (is_fine (does u w.plant).answer ≡ true) × Prepared v (ticks_of x) (is_cut x) (is_near x) w.plant (does u w.plant).plant =
    rw (head-eq_of_cons-eq c) (prepare_step v lt x u.lent w.plant (omega arith) (omega arith)) in
    let r = prepare_run v lt l ts (turn u w) (tail-eq_of_cons-eq c) (omega arith) (omega (arith, s.1.clock)) in
    record { none_refused = (s.0, r.none_refused); prepared = prepared_then v _ _ _ _ _ _ _ _ _ s.1 r.prepared }
