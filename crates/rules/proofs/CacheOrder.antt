-- The cached keys stand in the order of the reads that cached them, and of sixteen the first gives way.
use Prim.Native.Nat.{◌+◌, ◌≤◌, ℕ}
use mathlib.Core.Path.{◌∙◌, ◌≡◌, ap, refl, subst, sym}
use mathlib.Core.Bool.{Bool, cond, false, not, true, true≢false}
use mathlib.Core.Option.{Option, none, some}
use mathlib.Core.List.{List, [], ◌++◌, ◌∷◌, map-append}
use lib.ListN.{drop, length}
use lib.Dec.{eqb, leb}
use lib.IntN.{pos, ℤ}
use Rattle.rules.specs.Lists.{any, head_or_zero, InOrder}
use Rattle.rules.specs.Limits.{cache_limit}
use Rattle.rules.specs.Refusals.{Refusal, ends_session, first}
use Rattle.rules.specs.Values.{nat_of, Place}
use Rattle.rules.specs.Tables.{Slot, session, Cached, keys_of, Plant, setup}
use Rattle.rules.specs.Calls.{fate_of, Call, Load, Map, Begin, Read, Change, Commit, Abandon, Advance, Take, Apply, Delete, Cut, Sweep, Store, Report, Mark, from_cache, cached_now, own_change, mark_number, fine, Result}
use Rattle.rules.specs.Conditions.{conditions}
use Rattle.rules.specs.Effects.{loaded, mapped, begun, touched, mark, evicted, cache_after, after_read, changed, committed, abandoned, lapses, loses, is_lost, in_documents, stays, advanced, taken, deleted, cut, swept}
use Rattle.rules.specs.Step.{accepted, session_of, ending, settle, step}
use Rattle.rules.specs.History.{Turn, World, turn, turns, initial, left_by, exchanges}
use Rattle.rules.specs.Answers.{Marks, CachesLast}
use Rattle.rules.specs.CacheOrder.{order_after, order_after_answer, by_reads, read_order, InReadOrder, GivesWay, OldestGivesWay, CommitCachesNone, ClockLeavesOrder}
use Rattle.rules.proofs.Laws.{by_case}
use Rattle.rules.proofs.Tests.{Once, keep_all}
use Rattle.rules.proofs.Steps.{step-fine, given, fine-none}
use Rattle.rules.proofs.KeptParts.{Kept}
use Rattle.rules.proofs.InOrder.{in_order_self, in_order_trans, in_order_cons, in_order_keep, in_order_last}
use Rattle.rules.proofs.Answered.{marks}
use Rattle.rules.proofs.Frames.{applied_only}
use Rattle.rules.proofs.KeptTables.{not_cached, evicted-not, same_keys}
use Rattle.rules.proofs.Kept.{step_keeps_lem, turns_keep, initial_kept}
use Rattle.rules.proofs.KeptTest.{kept_iff}

-- ── read ──
evicted_order : (l : List Cached) → Once (keys_of l) → InOrder (keys_of (evicted l)) (keys_of l)
evicted_order [] o = refl
evicted_order (c ∷ l) o =
    by_case (leb cache_limit (length (c ∷ l)))
    (λ t. subst (λ b. InOrder (keys_of (cond b l (c ∷ l))) (keys_of (c ∷ l))) (sym t) (in_order_cons c.key (keys_of l) (keys_of l) o.0 (in_order_self (keys_of l))))
    (λ t. subst (λ b. InOrder (keys_of (cond b l (c ∷ l))) (keys_of (c ∷ l))) (sym t) (in_order_self (keys_of (c ∷ l))))

-- a key that is cached now stands last
last_key : {k : ℕ} {before after : List Cached} → CachesLast k before after → keys_of after ≡ keys_of (evicted before) ++ (k ∷ [])
last_key {k} {before} c =
    ap keys_of c.last ∙ (map-append (λ x. x.key) (evicted before) (c.new ∷ []) ∙ ap (λ n. keys_of (evicted before) ++ (n ∷ [])) c.key)

read_order_lem : (p : Plant) (s key : ℕ) (l : List ℕ) → Kept p → InOrder (keys_of p.cache) l
    → InOrder (keys_of (after_read s key p).cache) (order_after (Read (pos s) (pos key)) (mark_number (mark s key p) ∷ []) l)
unfolding after_read
read_order_lem p s key l k o = go (mark s key p) (marks s key p k.cache.few)
  where
    go : (m : Mark) → Marks m key (touched (session s p.slots).changes (p.keys key)) p.cache (cache_after s key p)
        → InOrder (keys_of (cache_after s key p)) (order_after (Read (pos s) (pos key)) (mark_number m ∷ []) l)
    go from_cache (t, c, e) = rw e o
    go cached_now (t, c, e) =
        rw (last_key e)
        (in_order_last key (keys_of (evicted p.cache)) l (evicted-not key p.cache (not_cached key p.cache c))
        (in_order_trans (keys_of (evicted p.cache)) (keys_of p.cache) l (evicted_order p.cache k.cache.once) o))
    go own_change (t, e) = rw e o

-- ── advance ──
none_lost : (clock : ℕ) (l : List Slot) (d : ℕ) → any (λ (s : Slot). lapses clock s.session) l ≡ false → is_lost clock l d ≡ false
unfolding is_lost loses
none_lost clock [] d e = refl
none_lost clock (s ∷ l) d e = by_case (lapses clock s.session) (λ t. absurd (true≢false (rw t at e))) (λ t. rw t (none_lost clock l d (rw t at e)))

all_stay : (gone : ℕ → Bool) (keys : ℕ → List Place) (c : Cached) → ((d : ℕ) → gone d ≡ false) → stays gone keys c ≡ true
unfolding stays in_documents
all_stay gone keys c h = ap not (go (keys c.key))
  where
    go : (qs : List Place) → any (λ q. gone q.document) qs ≡ false
    go [] = refl
    go (q ∷ qs) = rw (h q.document) (go qs)

unmoved : (p : Plant) (n : ℕ) → any (λ (s : Slot). lapses (p.clock + n) s.session) p.slots ≡ false → (advanced n p).cache ≡ p.cache
unfolding advanced
unmoved p n h =
    sym (keep_all (stays (is_lost (p.clock + n) p.slots) p.keys) p.cache
    (λ c. all_stay (is_lost (p.clock + n) p.slots) p.keys c (λ d. none_lost (p.clock + n) p.slots d h)))

lapse_order : (p : Plant) (n : ℕ) → Kept p → InOrder (keys_of (advanced n p).cache) (keys_of p.cache)
unfolding advanced
lapse_order p n k = in_order_keep (λ c. c.key) (stays (is_lost (p.clock + n) p.slots) p.keys) p.cache k.cache.once

-- ── every call ──
-- the order after a result
abbrev ordered : Call → List ℕ → Result → Type 0
ordered c l r = InOrder (keys_of r.plant.cache) (order_after_answer c r.answer l)

keys_accepted : (c : Call) (lent : List ℤ) (p : Plant) (l : List ℕ) → Kept p → InOrder (keys_of p.cache) l
    → ordered c l (accepted c lent p)
unfolding accepted loaded mapped begun changed committed abandoned advanced taken deleted cut swept
keys_accepted (Load d f kd v) lent p l k o = o
keys_accepted (Map ky n qs) lent p l k o = o
keys_accepted Begin lent p l k o = o
keys_accepted (Read s ky) lent p l k o = read_order_lem p (nat_of s) (nat_of ky) l k o
keys_accepted (Change s d f kd v) lent p l k o = o
keys_accepted (Commit s) lent p l k o = subst (λ z. InOrder z l) (sym (same_keys p.keys _ p.cache)) o
keys_accepted (Abandon s) lent p l k o = o
keys_accepted (Advance n) lent p l k o = in_order_trans (keys_of (advanced (nat_of n) p).cache) (keys_of p.cache) l (lapse_order p (nat_of n) k) o
keys_accepted (Take w) lent p l k o = o
keys_accepted (Apply w fate) lent p l k o =
    subst (λ (q : Plant). InOrder (keys_of q.cache) l) (sym (applied_only (fate_of fate) (nat_of w) p)) o
keys_accepted (Delete w) lent p l k o = o
keys_accepted (Cut w) lent p l k o = o
keys_accepted Sweep lent p l k o = o
keys_accepted (Store n) lent p l k o = o
keys_accepted (Report s) lent p l k o = o

-- a refusal leaves the cached keys
refused_cache : (r : Refusal) (c : Call) (lent : List ℤ) (p : Plant) → (settle (some r) c lent p).plant.cache ≡ p.cache
refused_cache r c lent p = by_case (ends_session r) (λ e. rw e (ended (session_of c))) (λ e. rw e refl)
  where
    ended : (x : Option ℕ) → (ending x p).cache ≡ p.cache
    ended none = refl
    ended (some s) = refl

order-step : (c : Call) (lent : List ℤ) (p : Plant) (l : List ℕ) → Kept p → InOrder (keys_of p.cache) l
    → ordered c l (step c lent p)
unfolding step
order-step c lent p l k o = go (first (conditions c lent p))
  where
    go : (x : Option Refusal) → ordered c l (settle x c lent p)
    go none = keys_accepted c lent p l k o
    go (some r) = subst (λ m. InOrder (keys_of m) l) (sym (refused_cache r c lent p)) o

order-turns : (ts : List Turn) (w : World) (l : List ℕ) → Kept w.plant → InOrder (keys_of w.plant.cache) l
    → InOrder (keys_of (turns ts w).plant.cache) (by_reads (exchanges ts w.plant) l)
order-turns [] w l k o = o
order-turns (t ∷ ts) w l k o =
    order-turns ts (turn t w) _ (step_keeps_lem t.call t.lent w.plant k)
    (order-step t.call t.lent w.plant l k o)

pub in_read_order_lem : InReadOrder
unfolding initial setup
in_read_order_lem ts = order-turns ts initial [] initial_kept refl

-- ── of sixteen the first gives way ──
-- a read with mark 1
pub read_caches_last : (s k : ℤ) (lent : List ℤ) (p : Plant) → length p.cache ≤ cache_limit → (step (Read s k) lent p).answer ≡ fine (mark_number cached_now ∷ [])
    → CachesLast (nat_of k) p.cache (step (Read s k) lent p).plant.cache
unfolding accepted after_read
read_caches_last s k lent p few e =
    let q = step-fine (Read s k) lent p (fine-none (Read s k) lent p _ e) in
    subst (λ o. CachesLast (nat_of k) p.cache o.plant.cache) (sym q)
    (go (mark (nat_of s) (nat_of k) p) (ap given (sym (ap (λ o. o.answer) q) ∙ e)) (marks (nat_of s) (nat_of k) p few))
  where
    go : (x : Mark) → ◌≡◌ {A = List ℕ} (mark_number x ∷ []) (mark_number cached_now ∷ [])
        → Marks x (nat_of k) (touched (session (nat_of s) p.slots).changes (p.keys (nat_of k))) p.cache (cache_after (nat_of s) (nat_of k) p)
        → CachesLast (nat_of k) p.cache (cache_after (nat_of s) (nat_of k) p)
    go from_cache z m = absurd (true≢false (ap (λ (l : List ℕ). eqb (head_or_zero l) 0) z))
    go cached_now z m = m.2
    go own_change z m = absurd (true≢false (ap (λ (l : List ℕ). eqb (head_or_zero l) 2) z))

-- of keys that stand in an order
pub gives_way : {k : ℕ} {before after : List Cached} (order : List ℕ) → CachesLast k before after → length before ≡ cache_limit → InOrder (keys_of before) order
    → GivesWay k order (keys_of before) (keys_of after)
gives_way {k} {before} order c full o = last_key c ∙ ap (λ l. l ++ (k ∷ [])) (first_gone before full ∙ ap (drop 1) o)
  where
    first_gone : (l : List Cached) → length l ≡ cache_limit → keys_of (evicted l) ≡ drop 1 (keys_of l)
    first_gone [] e = refl
    first_gone (x ∷ l) e = rw e refl

pub oldest_gives_way_lem : OldestGivesWay
oldest_gives_way_lem ts s k lent e full =
    gives_way (read_order ts) (read_caches_last s k lent (left_by ts) (turns_keep ts initial initial_kept).cache.few e) full (in_read_order_lem ts)

-- ── commit ──
pub commit_caches_none_lem : CommitCachesNone
unfolding step accepted committed
commit_caches_none_lem s lent p = go (first (conditions (Commit s) lent p))
  where
    go : (x : Option Refusal) → keys_of (settle x (Commit s) lent p).plant.cache ≡ keys_of p.cache
    go none = same_keys p.keys _ p.cache
    go (some r) = ap keys_of (refused_cache r (Commit s) lent p)

-- ── the clock ──
pub clock_leaves_order_lem : ClockLeavesOrder
unfolding step accepted
clock_leaves_order_lem = record { none_lapses = λ n lent p h. still n lent p h (first (conditions (Advance n) lent p)); ordered = λ n lent p h. left n lent p ((kept_iff p).0 h) (first (conditions (Advance n) lent p)) }
  where
    still : (n : ℤ) (lent : List ℤ) (p : Plant) → any (λ (s : Slot). lapses (p.clock + nat_of n) s.session) p.slots ≡ false
        → (x : Option Refusal) → (settle x (Advance n) lent p).plant.cache ≡ p.cache
    still n lent p h none = unmoved p (nat_of n) h
    still n lent p h (some r) = refused_cache r (Advance n) lent p

    left : (n : ℤ) (lent : List ℤ) (p : Plant) → Kept p
        → (x : Option Refusal) → InOrder (keys_of (settle x (Advance n) lent p).plant.cache) (keys_of p.cache)
    left n lent p k none = lapse_order p (nat_of n) k
    left n lent p k (some r) = subst (λ m. InOrder (keys_of m) (keys_of p.cache)) (sym (refused_cache r (Advance n) lent p)) (in_order_self (keys_of p.cache))
