-- Set-up keeps the rules of the plant, and so does every call, refused or not.
use Prim.Native.Nat.{ℕ}
use native.Mathlib.Omega.{arith}
use mathlib.Core.Path.{◌≡◌, refl}
use mathlib.Core.Bool.{◌&&◌, ◌||◌, false, not, true}
use mathlib.Core.Option.{Option, none, some}
use mathlib.Core.List.{List, [], ◌∷◌}
use lib.ListN.{drop, length, length-take, take}
use lib.Dec.{leb}
use lib.IntN.{ℤ}
use borrow.Author.Tests.{le-leb, not-false}
use Rattle.rules.specs.Lists.{any, all, case_of, bit}
use Rattle.rules.specs.Limits.{key_count, place_limit, worker_count}
use Rattle.rules.specs.Refusals.{Refusal, bad_places, wrong_hand, first}
use Rattle.rules.specs.Values.{below, nat_of, in_range, twice}
use Rattle.rules.specs.Changes.{place_of, update_of}
use Rattle.rules.specs.Tables.{full, replied, Plant, setup}
use Rattle.rules.specs.Calls.{Pairs, places_of, fate_of, Call, Load, Map, Begin, Read, Change, Commit, Abandon, Advance, Take, Apply, Delete, Cut, Sweep, Store, Report}
use Rattle.rules.specs.Conditions.{good_pairs, good_count, is_zero, conditions}
use Rattle.rules.specs.Effects.{abandoned}
use Rattle.rules.specs.Step.{accepted, settle, step}
use Rattle.rules.specs.Kept.{key_ok}
use Rattle.rules.specs.History.{Turn, World, turn, turns, initial}
use Rattle.rules.proofs.Laws.{not_met, NoneMet, none_met, or_false, and_true, both, below_is}
use Rattle.rules.proofs.Tests.{all_take}
use Rattle.rules.proofs.KeptParts.{Kept}
use Rattle.rules.proofs.KeptTables.{cache_nil}
use Rattle.rules.proofs.KeptSetup.{update_ok_lem, places_ok, kept_end, kept_refused, slots_nil, buffer_nil, kept_load, kept_map, kept_begin}
use Rattle.rules.proofs.KeptTerminals.{kept_read, kept_change, kept_commit, kept_advance}
use Rattle.rules.proofs.KeptWorkers.{kept_take, kept_cut, kept_apply, kept_delete, kept_sweep, kept_near}

pub setup_kept_lem : Kept setup
unfolding setup
setup_kept_lem =
    record {
      store = λ q r. refl;
      keys = λ k lt. refl;
      cache = cache_nil _ _ 1;
      slots = slots_nil _ 0 1;
      fresh = refl;
      buffer = buffer_nil _ [] 1;
      rows = record { few = omega arith; once = tt; numbers = refl };
      hands = λ w lt. tt;
      queue = refl;
      clock = omega arith;
      begun = omega arith;
      next = omega arith;
    }

key_ok_lem : (n : ℕ) (m : Pairs) → good_pairs m ≡ true → twice (take n (places_of m)) ≡ false → key_ok (take n (places_of m)) ≡ true
key_ok_lem n m g t =
    both (leb (length (take n (places_of m))) place_limit && all in_range (take n (places_of m))) (not (twice (take n (places_of m))))
    (both (leb (length (take n (places_of m))) place_limit) (all in_range (take n (places_of m)))
    (le-leb (length (take n (places_of m))) place_limit (rw (length-take n (places_of m)) (omega arith)))
    (all_take in_range n (places_of m) (places_ok m g)))
    (rw t)

kept_accepted : (c : Call) (lent : List ℤ) (p : Plant) → NoneMet (conditions c lent p) → Kept p
    → Kept (accepted c lent p).plant
unfolding accepted conditions abandoned
kept_accepted (Load d f k v) lent p m i =
    kept_load (update_of (place_of d f) (nat_of k) v) (update_ok_lem d f k v (not-false _ (not_met _ _ m.0))) (not_met _ _ m.1.0) i
kept_accepted (Map k n ps) lent p m i =
    kept_map (nat_of k) (take (nat_of n) (places_of ps))
    (key_ok_lem (nat_of n) ps (and_true (below k key_count) (good_pairs ps) (not-false _ (not_met _ _ m.0))).1
    (or_false (not (good_count n) || any (λ q. not (is_zero q)) (drop (nat_of n) (places_of ps))) (twice (take (nat_of n) (places_of ps)))
    (not_met _ bad_places m.1.1.1.0)).1)
    (not_met _ _ m.1.0) i
kept_accepted Begin lent p m i = kept_begin (not_met _ _ m.0) (not_met _ _ m.1.0) i
kept_accepted (Read s k) lent p m i =
    kept_read (nat_of s) (nat_of k) (below_is k key_count (not-false _ (not_met _ _ m.0))) (not_met _ _ m.1.1.0)
    (not_met _ _ m.1.1.1.0) (not_met _ _ m.1.1.1.1.1.0) i
kept_accepted (Change s d f k v) lent p m i =
    kept_change (nat_of s) (update_of (place_of d f) (nat_of k) v) (not_met _ _ m.1.1.0) (update_ok_lem d f k v (not-false _ (not_met _ _ m.0)))
    (not_met _ _ m.1.1.1.0) (not_met _ _ m.1.1.1.1.0)
    m.1.1.1.1.1.1.0 i
kept_accepted (Commit s) lent p m i = kept_commit (nat_of s) (not_met _ _ m.1.0) (not_met _ _ m.1.1.0) i
kept_accepted (Abandon s) lent p m i = kept_end (nat_of s) i
kept_accepted (Advance n) lent p m i = kept_advance (nat_of n) (not_met _ _ m.1.0) i
kept_accepted (Take w) lent p m i =
    kept_take (nat_of w) (below_is w worker_count (not-false _ (not_met _ _ m.0))) (not_met _ _ m.1.1.1.0) i
kept_accepted (Apply w fate) lent p m i =
    kept_apply (fate_of fate) (nat_of w) (below_is w worker_count (and_true _ _ (not-false _ (not_met _ _ m.0))).0)
    (not-false _ (or_false _ _ (not_met _ _ m.1.0)).0) (not_met _ _ m.1.1.1.0) i
kept_accepted (Delete w) lent p m i =
    kept_delete (nat_of w) (below_is w worker_count (not-false _ (not_met _ _ m.0))) replies.0 replies.1 i
  where
    replies : (full (p.hands (nat_of w)) ≡ true) × (replied (p.hands (nat_of w)) ≡ true)
    replies = and_true (full (p.hands (nat_of w))) (replied (p.hands (nat_of w))) (not-false _ (not_met _ wrong_hand m.1.0))
kept_accepted (Cut w) lent p m i = kept_cut (nat_of w) i
kept_accepted Sweep lent p m i = kept_sweep i
kept_accepted (Store n) lent p m i = kept_near (case_of bit false (true ∷ false ∷ []) (nat_of n)) i
kept_accepted (Report s) lent p m i = i

pub step_keeps_lem : (c : Call) (lent : List ℤ) (p : Plant) → Kept p → Kept (step c lent p).plant
unfolding step
step_keeps_lem c lent p k = go (first (conditions c lent p)) refl
  where
    go : (o : Option Refusal) → first (conditions c lent p) ≡ o → Kept (settle o c lent p).plant
    go none e = kept_accepted c lent p (none_met (conditions c lent p) e) k
    go (some r) e = kept_refused c r k

-- so every plant that calls from set-up leave keeps them
pub turns_keep : (ts : List Turn) (w : World) → Kept w.plant → Kept (turns ts w).plant
turns_keep [] w k = k
turns_keep (t ∷ ts) w k = turns_keep ts (turn t w) (step_keeps_lem t.call t.lent w.plant k)

pub initial_kept : Kept initial.plant
unfolding initial
initial_kept = setup_kept_lem
