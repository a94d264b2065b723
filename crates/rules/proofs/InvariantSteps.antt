-- Every call, and so every list of calls, keeps the invariant of demand 3.
use Prim.Native.Nat.{suc}
use mathlib.Core.Path.{◌≡◌, refl, sym}
use mathlib.Core.Bool.{false, true, true≢false}
use mathlib.Core.Option.{Option, none, some}
use mathlib.Core.List.{List, [], ◌∷◌}
use lib.ListN.{length}
use lib.IntN.{ℤ}
use borrow.Author.Tests.{not-false}
use Rattle.rules.specs.Lists.{case_of, bit}
use Rattle.rules.specs.Limits.{worker_count}
use Rattle.rules.specs.Refusals.{Refusal, wrong_hand, first}
use Rattle.rules.specs.Values.{nat_of}
use Rattle.rules.specs.Tables.{full, replied, Plant, setup}
use Rattle.rules.specs.Calls.{fate_of, Call, Load, Map, Begin, Read, Change, Commit, Abandon, Advance, Take, Apply, Delete, Cut, Sweep, Store, Report, mark_number}
use Rattle.rules.specs.Conditions.{own, conditions}
use Rattle.rules.specs.Effects.{mark, abandoned}
use Rattle.rules.specs.Step.{accepted, settle, step}
use Rattle.rules.specs.History.{History, empty_history, note, note_answer, Turn, World, turn, turns, initial}
use Rattle.rules.proofs.Laws.{not_met, NoneMet, none_met, or_false, and_true, below_is}
use Rattle.rules.proofs.KeptParts.{Kept}
use Rattle.rules.proofs.Invariant.{none_owed, Inv}
use Rattle.rules.proofs.Kept.{step_keeps_lem}
use Rattle.rules.proofs.InvariantTerminals.{inv_end, inv_refused, inv_load, inv_map, inv_begin, inv_read, inv_change, inv_commit, inv_advance}
use Rattle.rules.proofs.InvariantWorkers.{inv_take, inv_cut, inv_apply, inv_delete, inv_sweep, inv_near}

pub inv_accepted : (c : Call) (lent : List ℤ) (h : History) (p : Plant) → NoneMet (conditions c lent p) → Kept p
    → Inv h p
    → Inv (note_answer c (accepted c lent p).answer (accepted c lent p).words h) (accepted c lent p).plant
unfolding accepted conditions note abandoned
inv_accepted (Load d f kd v) lent h p m k i = inv_load d f kd v lent (not_met _ _ m.1.0) k i
inv_accepted (Map ky n qs) lent h p m k i = inv_map ky n qs lent (not_met _ _ m.1.0) i
inv_accepted Begin lent h p m k i = inv_begin lent (not_met _ _ m.1.0) k i
inv_accepted (Read s ky) lent h p m k i =
    inv_read s ky lent (mark_number (mark (nat_of s) (nat_of ky) p) ∷ []) (not_met _ _ m.1.1.0) (not_met _ _ m.1.1.1.1.1.0) i
inv_accepted (Change s d f kd v) lent h p m k i =
    inv_change s d f kd v (suc (length (own s p)) ∷ []) lent (not_met _ _ m.1.1.0) (not_met _ _ m.1.1.1.0) (not_met _ _ m.1.1.1.1.0)
    m.1.1.1.1.1.1.0 i
inv_accepted (Commit s) lent h p m k i = inv_commit s [] lent (not_met _ _ m.1.0) (not_met _ _ m.1.1.0) k i
inv_accepted (Abandon s) lent h p m k i = inv_end (nat_of s) i
inv_accepted (Advance n) lent h p m k i = inv_advance (nat_of n) i
inv_accepted (Take w) lent h p m k i = inv_take w lent i
inv_accepted (Apply w fate) lent h p m k i =
    inv_apply (fate_of fate) (nat_of w) (below_is w worker_count (and_true _ _ (not-false _ (not_met _ _ m.0))).0)
    (not-false _ (or_false _ _ (not_met _ _ m.1.0)).0) (not_met _ _ m.1.1.1.0) k i
inv_accepted (Delete w) lent h p m k i =
    inv_delete w [] lent (below_is w worker_count (not-false _ (not_met _ _ m.0))) replies.0 replies.1 k i
  where
    replies : (full (p.hands (nat_of w)) ≡ true) × (replied (p.hands (nat_of w)) ≡ true)
    replies = and_true (full (p.hands (nat_of w))) (replied (p.hands (nat_of w))) (not-false _ (not_met _ wrong_hand m.1.0))
inv_accepted (Cut w) lent h p m k i = inv_cut (nat_of w) i
inv_accepted Sweep lent h p m k i = inv_sweep i
inv_accepted (Store n) lent h p m k i = inv_near (case_of bit false (true ∷ false ∷ []) (nat_of n)) i
inv_accepted (Report s) lent h p m k i = i

pub inv_step : (c : Call) (lent : List ℤ) (h : History) (p : Plant) → Kept p → Inv h p
    → Inv (note_answer c (step c lent p).answer (step c lent p).words h) (step c lent p).plant
unfolding step
inv_step c lent h p k i = go (first (conditions c lent p)) refl
  where
    go : (o : Option Refusal) → first (conditions c lent p) ≡ o
        → Inv (note_answer c (settle o c lent p).answer (settle o c lent p).words h) (settle o c lent p).plant
    go none e = inv_accepted c lent h p (none_met (conditions c lent p) e) k i
    go (some n) e = inv_refused c n i

pub inv_turns : (ts : List Turn) (w : World) → Kept w.plant → Inv w.history w.plant
    → Inv (turns ts w).history (turns ts w).plant
inv_turns [] w k i = i
inv_turns (t ∷ ts) w k i =
    inv_turns ts (turn t w) (step_keeps_lem t.call t.lent w.plant k)
    (inv_step t.call t.lent w.history w.plant k i)

pub inv_initial : Inv initial.history initial.plant
unfolding initial setup empty_history
inv_initial =
    record {
      workers = record { done = []; left = []; split = refl; stock = refl; owed = none_owed; names = refl; hand = λ w h g. absurd (true≢false (sym g)) };
      alone = tt;
      sessions = record { live = λ n d. absurd (true≢false d); apart = λ n m d ne x. refl };
      keys = refl;
      early = λ e. refl;
    }
