-- The rules of the buffer, the rows, the hands and the cached keys are kept.
use Prim.Native.Nat.{◌<◌, ◌≤◌, suc, ℕ}
use native.Mathlib.Omega.{arith}
use mathlib.Core.Path.{◌∙◌, ◌≡◌, ap, ap₂, refl, subst, sym}
use mathlib.Core.Bool.{Bool, ◌&&◌, ◌||◌, cond, false, not, true, true≢false}
use mathlib.Core.List.{List, [], ◌++◌, ◌∷◌, append_assoc, append-nil, map}
use lib.ListN.{length, length-append}
use lib.Dec.{eqb, leb, ltb}
use borrow.Author.Tests.{eqb-true, leb-true, lt-ltb, ltb-false}
use Rattle.rules.specs.Lists.{keep, all, pushed, is_empty, has}
use Rattle.rules.specs.Limits.{key_count, cache_limit, change_limit, buffer_limit}
use Rattle.rules.specs.Values.{Place, absent, Stock}
use Rattle.rules.specs.Changes.{Update, follow, accepts, update_ok}
use Rattle.rules.specs.Tables.{Cached, keys_of, is_cached, Batch, numbers_of, is_oldest, batch_of, unbuffer, pending, changes_in}
use Rattle.rules.specs.Effects.{evicted, up_to_date}
use Rattle.rules.specs.Kept.{is_defined, good_number, batch_ok}
use Rattle.rules.proofs.Laws.{by_case, or_one, and_true, both, follow_append, pushed_room}
use Rattle.rules.proofs.Tests.{Once, all_head, all_tail, all_snoc, all_keep, length-keep, once_map-keep, once_map_snoc}
use Rattle.rules.proofs.Accepts.{accepts_split, accepts_join, run-set}
use Rattle.rules.proofs.KeptParts.{CacheKept, NoRows, TailFree, RowShown, BufferKept}
use Rattle.rules.proofs.Buffer.{nums_append, pending_append, pending_free, has_last, no_rows_snoc, once_snoc, pending-unbuffer, tail_unbuffer, nums_unbuffer, length-unbuffer, has-keep-false, once_keep, pending_rows, tail_free_keep, tail_last}
use Rattle.rules.proofs.Answered.{evicted_room}
use Rattle.rules.proofs.Words.{cache_commit, cache_keep, cache_snoc}
use Rattle.rules.proofs.KeptSlots.{number_less, number_later}

-- ── numbers ──
-- before the first session no table holds a number
pub numbers_nil : {A : Type 0} (g : A → ℕ) (next : ℕ) (l : List A) → all (λ x. good_number next (g x)) l ≡ true → ltb 1 next ≡ false → l ≡ []
numbers_nil g next [] a e = refl
numbers_nil g next (x ∷ l) a e = absurd (none_less (g x) next (number_least next (g x) h) (number_less next (g x) h) (ltb-false 1 next e))
  where
    h : good_number next (g x) ≡ true
    h = all_head (λ x. good_number next (g x)) x l a

    none_less : (n k : ℕ) → 1 ≤ n → n < k → k ≤ 1 → ⊥
    none_less n k u v w = omega arith

    number_least : (k n : ℕ) → good_number k n ≡ true → 1 ≤ n
    number_least k n z = leb-true 1 n (and_true (leb 1 n) (ltb n k) z).0

pub not_next : (next : ℕ) (l : List ℕ) → all (good_number next) l ≡ true → has next l ≡ false
not_next next [] a = refl
not_next next (x ∷ l) a =
    by_case (eqb next x) (λ e. absurd (less next x (eqb-true next x e) (number_less next x (all_head (good_number next) x l a))))
    (λ e. rw e (not_next next l (all_tail (good_number next) x l a)))
  where
    less : (u v : ℕ) → u ≡ v → v < u → ⊥
    less u v a b = omega arith

pub batch_number : (next : ℕ) (b : Batch) → batch_ok next b ≡ true → good_number next b.number ≡ true
batch_number next b e =
    let x = and_true (good_number next b.number && not (is_empty b.changes) && leb (length b.changes) change_limit)
    (all update_ok b.changes) e in
    let y = and_true (good_number next b.number && not (is_empty b.changes)) (leb (length b.changes) change_limit) x.0 in
    (and_true (good_number next b.number) (not (is_empty b.changes)) y.0).0

pub batch_formed : (next : ℕ) (b : Batch) → batch_ok next b ≡ true → all update_ok b.changes ≡ true
batch_formed next b e =
    (and_true (good_number next b.number && not (is_empty b.changes) && leb (length b.changes) change_limit) (all update_ok b.changes) e).1

pub batch_later : (next next' : ℕ) (b : Batch) → next ≤ next' → batch_ok next b ≡ true → batch_ok next' b ≡ true
batch_later next next' b h e =
    let x = and_true (good_number next b.number && not (is_empty b.changes) && leb (length b.changes) change_limit)
    (all update_ok b.changes) e in
    let y = and_true (good_number next b.number && not (is_empty b.changes)) (leb (length b.changes) change_limit) x.0 in
    let z = and_true (good_number next b.number) (not (is_empty b.changes)) y.0 in
    both (good_number next' b.number && not (is_empty b.changes) && leb (length b.changes) change_limit) (all update_ok b.changes)
    (both (good_number next' b.number && not (is_empty b.changes)) (leb (length b.changes) change_limit)
    (both (good_number next' b.number) (not (is_empty b.changes)) (number_later next next' b.number h z.0) z.1) y.1)
    x.1

pub nums_good : (next : ℕ) (l : List Batch) → all (batch_ok next) l ≡ true → all (good_number next) (numbers_of l) ≡ true
nums_good next [] a = refl
nums_good next (b ∷ l) a =
    both (good_number next b.number) (all (good_number next) (numbers_of l)) (batch_number next b (all_head (batch_ok next) b l a))
    (nums_good next l (all_tail (batch_ok next) b l a))

-- ── apply ──
-- what a carried session leaves
pub record Carry (store : Stock) (rows : List ℕ) (next : ℕ) (buffer : List Batch) (n : ℕ) : Type 0 where
  pub kept : BufferKept (follow store (batch_of n buffer)) (rows ++ (n ∷ [])) next buffer
  pub same : follow (follow store (batch_of n buffer)) (changes_in (pending (rows ++ (n ∷ [])) buffer)) ≡ follow store (changes_in (pending rows buffer))
  pub formed : all update_ok (batch_of n buffer) ≡ true
  pub number : good_number next n ≡ true

pub buffer_carry : {store : Stock} {rows : List ℕ} {next : ℕ} (buffer : List Batch) (n : ℕ) → is_oldest n buffer ≡ true → has n rows ≡ false
    → BufferKept store rows next buffer → Carry store rows next buffer n
buffer_carry [] n e h k = absurd (true≢false (sym e))
buffer_carry {store} {rows} {next} (b ∷ l) n e h k =
    record {
      kept = subst (λ (cs : List Update). BufferKept (follow store cs) rows' next (b ∷ l)) (sym batch_is)
          record {
            few = k.few;
            once = k.once;
            ok = k.ok;
            tail = no_rows_snoc n rows l others k.tail;
            pending_ok = ap (λ z. accepts (follow store b.changes) (changes_in z)) pending'
                ∙ (accepts_split store b.changes (changes_in l) (ap (λ z. accepts store (changes_in z)) (sym pending-all) ∙ k.pending_ok)).1;
            shown = λ r q i t. run-set b.changes q (store q) absent t;
          };
      same = ap₂ (λ (cs : List Update) (z : List Batch). follow (follow store cs) (changes_in z)) batch_is pending'
          ∙ sym (follow_append store b.changes (changes_in l)) ∙ ap (λ z. follow store (changes_in z)) (sym pending-all);
      formed = rw batch_is (batch_formed next b (all_head (batch_ok next) b l k.ok));
      number = rw (← same_num) (batch_number next b (all_head (batch_ok next) b l k.ok));
    }
  where
    rows' : List ℕ
    rows' = rows ++ (n ∷ [])

    same_num : b.number ≡ n
    same_num = sym (eqb-true n b.number e)

    batch_is : batch_of n (b ∷ l) ≡ b.changes
    batch_is = ap (λ z. cond z b.changes (batch_of n l)) e

    others : has n (numbers_of l) ≡ false
    others = rw same_num at k.once.0

    pending-all : pending rows (b ∷ l) ≡ b ∷ l
    pending-all = pending_free rows (b ∷ l) (rw same_num h, k.tail)

    pending' : pending rows' (b ∷ l) ≡ l
    pending' =
        ap (λ z. cond (not z) (b ∷ pending rows' l) (pending rows' l)) (ap (λ m. has m rows') same_num ∙ has_last n rows)
        ∙ pending_free rows' l (no_rows_snoc n rows l others k.tail)

-- ── delete, sweep ──
pub buffer_delete : {store : Stock} {rows : List ℕ} {next : ℕ} {buffer : List Batch} (n : ℕ) → has n rows ≡ true → BufferKept store rows next buffer
    → BufferKept store rows next (unbuffer n buffer)
buffer_delete {store} {rows} {next} {buffer} n h k =
    record {
      few = omega (arith, length-unbuffer n buffer, k.few);
      once = rw (nums_unbuffer n buffer) (once_keep (λ m. not (eqb n m)) (numbers_of buffer) k.once);
      ok = all_keep (batch_ok next) (λ b. not (eqb n b.number)) buffer k.ok;
      tail = tail_unbuffer n rows buffer k.tail;
      pending_ok = ap (λ z. accepts store (changes_in z)) (pending-unbuffer n rows buffer h) ∙ k.pending_ok;
      shown = shows buffer k.tail k.shown;
    }
  where
    unapplied : (l : List Batch) → NoRows rows l → RowShown store rows (unbuffer n l)
    unapplied [] t = tt
    unapplied (b ∷ l) t =
        by_case (eqb n b.number) (λ e. subst (λ z. RowShown store rows (cond (not z) (b ∷ unbuffer n l) (unbuffer n l))) (sym e)
        (unapplied l t.1))
        (λ e. subst (λ z. RowShown store rows (cond (not z) (b ∷ unbuffer n l) (unbuffer n l))) (sym e)
        (λ r q i s. absurd (true≢false (sym r ∙ t.0))))

    shows : (l : List Batch) → TailFree rows l → RowShown store rows l → RowShown store rows (unbuffer n l)
    shows [] t s = tt
    shows (b ∷ l) t s =
        by_case (eqb n b.number) (λ e. subst (λ z. RowShown store rows (cond (not z) (b ∷ unbuffer n l) (unbuffer n l))) (sym e) (unapplied l t))
        (λ e. subst (λ z. RowShown store rows (cond (not z) (b ∷ unbuffer n l) (unbuffer n l))) (sym e) s)

pub has-keep-true : (f : ℕ → Bool) (m : ℕ) (l : List ℕ) → has m (keep f l) ≡ true → has m l ≡ true
has-keep-true f m l e = by_case (has m l) (λ t. t) (λ t. absurd (true≢false (sym e ∙ has-keep-false f m l t)))

pub buffer_sweep : {store : Stock} {rows : List ℕ} {next : ℕ} {buffer : List Batch} (f : ℕ → Bool)
    → ((n : ℕ) → has n (numbers_of buffer) ≡ true → has n (keep f rows) ≡ has n rows)
    → BufferKept store rows next buffer → BufferKept store (keep f rows) next buffer
buffer_sweep {store} {rows} {next} {buffer} f h k =
    record {
      few = k.few;
      once = k.once;
      ok = k.ok;
      tail = tail_free_keep f rows buffer k.tail;
      pending_ok = ap (λ z. accepts store (changes_in z)) (pending_rows rows (keep f rows) buffer h) ∙ k.pending_ok;
      shown = shows buffer k.shown;
    }
  where
    shows : (l : List Batch) → RowShown store rows l → RowShown store (keep f rows) l
    shows [] s = tt
    shows (b ∷ l) s = λ r. s (has-keep-true f b.number rows r)

-- ── commit ──
pub flat_append : (a b : List Batch) → changes_in (a ++ b) ≡ changes_in a ++ changes_in b
flat_append [] b = refl
flat_append (x ∷ a) b = ap (λ z. x.changes ++ z) (flat_append a b) ∙ sym (append_assoc x.changes (changes_in a) (changes_in b))

pub flat_commit : (rows : List ℕ) (buffer : List Batch) (b : Batch) → has b.number rows ≡ false
    → changes_in (pending rows (buffer ++ (b ∷ []))) ≡ changes_in (pending rows buffer) ++ b.changes
flat_commit rows buffer b h =
    ap changes_in (pending_append rows buffer (b ∷ []) ∙ ap (λ z. pending rows buffer ++ cond (not z) (b ∷ []) []) h)
    ∙ flat_append (pending rows buffer) (b ∷ []) ∙ ap (λ z. changes_in (pending rows buffer) ++ z) (append-nil b.changes)

pub buffer_commit : {store : Stock} {rows : List ℕ} {next : ℕ} {buffer : List Batch} (b : Batch) → length buffer < buffer_limit
    → has b.number (numbers_of buffer) ≡ false → has b.number rows ≡ false
    → batch_ok next b ≡ true → accepts (follow store (changes_in (pending rows buffer))) b.changes ≡ true → BufferKept store rows next buffer
    → BufferKept store rows next (buffer ++ (b ∷ []))
buffer_commit {store} {rows} {next} {buffer} b lt nb nr ok a k =
    record {
      few = rw (length-append buffer (b ∷ [])) (omega arith);
      once = rw (nums_append buffer (b ∷ [])) (once_snoc b.number (numbers_of buffer) nb k.once);
      ok = all_snoc (batch_ok next) buffer b k.ok ok;
      tail = tail_last rows buffer b nr k.tail;
      pending_ok =
          ap (accepts store) (flat_commit rows buffer b nr) ∙ accepts_join store (changes_in (pending rows buffer)) b.changes k.pending_ok a;
      shown = shows buffer k.shown;
    }
  where
    shows : (l : List Batch) → RowShown store rows l → RowShown store rows (l ++ (b ∷ []))
    shows [] s = λ r q i t. absurd (true≢false (sym r ∙ nr))
    shows (x ∷ l) s = s

-- ── cached keys ──
pub after_begin_lem : (l m : List Cached) (b : Bool) → (l ≡ [] → m ≡ []) → is_empty l || b ≡ true → is_empty m || b ≡ true
after_begin_lem l m true f e = or_one (is_empty m)
after_begin_lem [] m false f e = rw (f refl)
after_begin_lem (x ∷ l) m false f e = absurd (true≢false (sym e))

pub early_cache : (l : List Cached) (b : Bool) → is_empty l || b ≡ true → b ≡ false → l ≡ []
early_cache [] b e h = refl
early_cache (x ∷ l) b e h = absurd (true≢false (sym e ∙ h))

pub cache_nil : (now : Stock) (keys : ℕ → List Place) (next : ℕ) → CacheKept now keys next []
cache_nil now keys next = record { few = omega arith; once = tt; defined = refl; fields = tt; after_begin = refl }

pub not_cached : (k : ℕ) (l : List Cached) → is_cached k l ≡ false → has k (keys_of l) ≡ false
not_cached k [] e = refl
not_cached k (c ∷ l) e = by_case (eqb k c.key) (λ t. absurd (true≢false (rw t at e))) (λ t. rw t (not_cached k l (rw t at e)))

cache_evicted : {now : Stock} {keys : ℕ → List Place} {next : ℕ} (l : List Cached) → ltb 1 next ≡ true → CacheKept now keys next l
    → CacheKept now keys next (evicted l)
cache_evicted [] b k = k
cache_evicted {now} {keys} {next} (c ∷ l) b k =
    by_case (leb cache_limit (length (c ∷ l)))
    (λ t. rw t
    record {
      few = omega (arith, k.few);
      once = k.once.1;
      defined = all_tail (is_defined keys) c l k.defined;
      fields = k.fields.1;
      after_begin = rw b (or_one (is_empty l));
    })
    (λ t. rw t k)

pub evicted-not : (k : ℕ) (l : List Cached) → has k (keys_of l) ≡ false → has k (keys_of (evicted l)) ≡ false
evicted-not k [] e = e
evicted-not k (c ∷ l) e =
    by_case (leb cache_limit (length (c ∷ l)))
    (λ t. rw t (by_case (eqb k c.key) (λ u. absurd (true≢false (rw u at e))) (λ u. rw u at e)))
    (λ t. rw t e)

-- a key is cached, one may give way
pub cache_read : {now : Stock} {keys : ℕ → List Place} {next : ℕ} {l : List Cached} (k : ℕ) → ltb 1 next ≡ true
    → is_cached k l ≡ false → k < key_count → is_empty (keys k) ≡ false
    → CacheKept now keys next l → CacheKept now keys next (pushed cache_limit (evicted l) (record { key = k; fields = map now (keys k) }))
cache_read {now} {keys} {next} {l} k b c lt d i =
    let e = cache_evicted l b i in
    let r = evicted_room l i.few in
    let x : Cached = record { key = k; fields = map now (keys k) } in
    rw (pushed_room cache_limit (evicted l) x r)
    record {
      few = rw (length-append (evicted l) (x ∷ [])) (omega arith);
      once = once_map_snoc (λ c. c.key) x (evicted l) (evicted-not k l (not_cached k l c)) e.once;
      defined =
          all_snoc (is_defined keys) (evicted l) x e.defined (both (ltb k key_count) (not (is_empty (keys k))) (lt-ltb k key_count lt) (rw d));
      fields = cache_snoc now keys (evicted l) x e.fields refl;
      after_begin = rw b (or_one (is_empty (evicted l ++ (x ∷ []))));
    }

-- cached keys are brought up to date
pub same_keys : (keys : ℕ → List Place) (now : Stock) (l : List Cached) → keys_of (map (up_to_date keys now) l) ≡ keys_of l
same_keys keys now [] = refl
same_keys keys now (c ∷ l) = ap (λ z. c.key ∷ z) (same_keys keys now l)

pub cache_update : {now : Stock} {keys : ℕ → List Place} {next : ℕ} {l : List Cached} (now' : Stock) → CacheKept now keys next l
    → CacheKept now' keys next (map (up_to_date keys now') l)
cache_update {now} {keys} {next} {l} now' k =
    record {
      few = rw (same_length l) k.few;
      once = subst Once (sym (same_keys keys now' l)) k.once;
      defined = still l k.defined;
      fields = cache_commit now' keys l;
      after_begin = after_begin_lem l (map (up_to_date keys now') l) (ltb 1 next) (λ e. ap (map (up_to_date keys now')) e) k.after_begin;
    }
  where
    same_length : (m : List Cached) → length (map (up_to_date keys now') m) ≡ length m
    same_length [] = refl
    same_length (c ∷ m) = ap suc (same_length m)

    still : (m : List Cached) → all (is_defined keys) m ≡ true → all (is_defined keys) (map (up_to_date keys now') m) ≡ true
    still [] e = refl
    still (c ∷ m) e =
        both (is_defined keys c) (all (is_defined keys) (map (up_to_date keys now') m)) (all_head (is_defined keys) c m e)
        (still m (all_tail (is_defined keys) c m e))

-- cached keys are dropped
pub cache_drop : {now : Stock} {keys : ℕ → List Place} {next : ℕ} {l : List Cached} (f : Cached → Bool) → CacheKept now keys next l
    → CacheKept now keys next (keep f l)
cache_drop {now} {keys} {next} {l} f k =
    record {
      few = omega (arith, length-keep f l, k.few);
      once = once_map-keep (λ c. c.key) f l k.once;
      defined = all_keep (is_defined keys) f l k.defined;
      fields = cache_keep now keys f l k.fields;
      after_begin = after_begin_lem l (keep f l) (ltb 1 next) (λ e. ap (keep f) e) k.after_begin;
    }
