-- Laws of lists of numbers, of the buffer with its rows, and of hands.
use Prim.Native.Nat.{◌<◌, ◌≤◌, ℕ}
use native.Mathlib.Omega.{arith}
use mathlib.Core.Path.{◌∙◌, ◌≡◌, ap, refl, sym}
use mathlib.Core.Bool.{Bool, ◌&&◌, ◌||◌, false, not, true, true≢false}
use mathlib.Core.Logic.{◌⊎◌, inl, inr}
use mathlib.Core.List.{List, [], ◌++◌, ◌∷◌}
use lib.ListN.{length}
use lib.Dec.{eqb, leb}
use borrow.Author.Tests.{eqb-true, leb-false}
use Rattle.rules.specs.Lists.{keep, all, is_empty, has, without}
use Rattle.rules.specs.Limits.{buffer_limit, row_limit, worker_count}
use Rattle.rules.specs.Changes.{Update}
use Rattle.rules.specs.Tables.{Batch, numbers_of, is_buffered, oldest, is_oldest, unbuffer, pending, Hand, empty, holds, full, replied, handed, in_hand, any_hand, Plant, removable}
use Rattle.rules.specs.Effects.{carried}
use Rattle.rules.proofs.Laws.{by_case, self, eqb-sym, pushed_room}
use Rattle.rules.proofs.Tests.{Once, all_head, all_tail, length-keep, any-upto}
use Rattle.rules.proofs.KeptParts.{NoRows, TailFree, HandOk}

-- ── lists ──
pub has_append : (n : ℕ) (a b : List ℕ) → has n (a ++ b) ≡ has n a || has n b
has_append n [] b = refl
has_append n (m ∷ a) b = by_case (eqb n m) (λ e. rw e) (λ e. rw e (has_append n a b))

pub nums_append : (a b : List Batch) → numbers_of (a ++ b) ≡ numbers_of a ++ numbers_of b
nums_append [] b = refl
nums_append (x ∷ a) b = ap (λ l. x.number ∷ l) (nums_append a b)

pub pending_append : (rows : List ℕ) (a b : List Batch) → pending rows (a ++ b) ≡ pending rows a ++ pending rows b
pending_append rows [] b = refl
pending_append rows (x ∷ a) b =
    by_case (has x.number rows) (λ e. rw e (pending_append rows a b)) (λ e. rw e (ap (λ l. x ∷ l) (pending_append rows a b)))

-- no row: pending is all
pub pending_free : (rows : List ℕ) (l : List Batch) → NoRows rows l → pending rows l ≡ l
pending_free rows [] h = refl
pending_free rows (b ∷ l) h = rw h.0 (ap (λ z. b ∷ z) (pending_free rows l h.1))

-- ── take, cut, reply ──
pub is_oldest-oldest : (b : List Batch) → is_empty b ≡ false → is_oldest (oldest b) b ≡ true
is_oldest-oldest [] e = sym e
is_oldest-oldest (b ∷ l) e = self b.number

-- no row and a full hand: the hand's session is the oldest buffered one
pub is_oldest_lem : (rows : List ℕ) (buffer : List Batch) (x : Hand) → full x ≡ true → has (handed x) rows ≡ false → HandOk rows buffer x
    → is_oldest (handed x) buffer ≡ true
is_oldest_lem rows buffer empty f z h = cc
is_oldest_lem rows buffer (holds m r) f z (inl y) = cc
is_oldest_lem rows buffer (holds m r) f z (inr y) = y.1

-- a reply: the row is there
pub has_row : (rows : List ℕ) (buffer : List Batch) (x : Hand) → full x ≡ true → replied x ≡ true → HandOk rows buffer x → has (handed x) rows ≡ true
has_row rows buffer empty f z h = cc
has_row rows buffer (holds m r) f z (inl y) = y
has_row rows buffer (holds m r) f z (inr y) = let q = y.0 in cc

pub has_snoc_false : (n m : ℕ) (rows : List ℕ) → has n rows ≡ false → eqb n m ≡ false → has n (rows ++ (m ∷ [])) ≡ false
has_snoc_false n m rows h e = rw (has_append n rows (m ∷ []), h, e)

pub has_snoc_true : (n m : ℕ) (rows : List ℕ) → has n rows ≡ true → has n (rows ++ (m ∷ [])) ≡ true
has_snoc_true n m rows h = rw (has_append n rows (m ∷ []), h)

pub has_left : (n : ℕ) (a b : List ℕ) → has n a ≡ true → has n (a ++ b) ≡ true
has_left n a b e = rw (has_append n a b, e)

pub has_last : (n : ℕ) (rows : List ℕ) → has n (rows ++ (n ∷ [])) ≡ true
has_last n rows = by_case (has n rows) (λ e. has_snoc_true n n rows e) (λ e. rw (has_append n rows (n ∷ []), e, self n))

pub no_rows_snoc : (n : ℕ) (rows : List ℕ) (l : List Batch) → has n (numbers_of l) ≡ false → NoRows rows l → NoRows (rows ++ (n ∷ [])) l
no_rows_snoc n rows [] h r = tt
no_rows_snoc n rows (b ∷ l) h r =
    by_case (eqb n b.number) (λ e. absurd (true≢false (rw e at h)))
    (λ e. (has_snoc_false b.number n rows r.0 (eqb-sym n b.number e), no_rows_snoc n rows l (rw e at h) r.1))

pub once_snoc : (n : ℕ) (l : List ℕ) → has n l ≡ false → Once l → Once (l ++ (n ∷ []))
once_snoc n [] h o = (refl, tt)
once_snoc n (m ∷ l) h o =
    by_case (eqb n m) (λ e. absurd (true≢false (rw e at h))) (λ e. (has_snoc_false m n l o.0 (eqb-sym n m e), once_snoc n l (rw e at h) o.1))

pub hand_rows : (m : ℕ) (rows : List ℕ) (buffer : List Batch) (x : Hand) → HandOk rows buffer x → HandOk (rows ++ (m ∷ [])) buffer x
hand_rows m rows buffer empty h = tt
hand_rows m rows buffer (holds k r) (inl y) = inl (has_snoc_true k m rows y)
hand_rows m rows buffer (holds k r) (inr y) = inr y

-- ── delete ──
-- what has a row is not pending
pub pending-unbuffer : (n : ℕ) (rows : List ℕ) (l : List Batch) → has n rows ≡ true → pending rows (unbuffer n l) ≡ pending rows l
pending-unbuffer n rows [] h = refl
pending-unbuffer n rows (b ∷ l) h =
    by_case (eqb n b.number)
    (λ e. rw (e, ← eqb-true n b.number e, h) (pending-unbuffer n rows l h))
    (λ e. rw e (by_case (has b.number rows) (λ t. rw t (pending-unbuffer n rows l h)) (λ t. rw t (ap (λ z. b ∷ z) (pending-unbuffer n rows l h)))))

pub no_rows_unbuffer : (n : ℕ) (rows : List ℕ) (l : List Batch) → NoRows rows l → NoRows rows (unbuffer n l)
no_rows_unbuffer n rows [] r = tt
no_rows_unbuffer n rows (b ∷ l) r =
    by_case (eqb n b.number) (λ e. rw e (no_rows_unbuffer n rows l r.1)) (λ e. rw e (r.0, no_rows_unbuffer n rows l r.1))

pub tail_of : (rows : List ℕ) (l : List Batch) → NoRows rows l → TailFree rows l
tail_of rows [] r = tt
tail_of rows (b ∷ l) r = r.1

pub tail_unbuffer : (n : ℕ) (rows : List ℕ) (l : List Batch) → TailFree rows l → TailFree rows (unbuffer n l)
tail_unbuffer n rows [] r = tt
tail_unbuffer n rows (b ∷ l) r =
    by_case (eqb n b.number) (λ e. rw e (tail_of rows (unbuffer n l) (no_rows_unbuffer n rows l r))) (λ e. rw e (no_rows_unbuffer n rows l r))

pub nums_unbuffer : (n : ℕ) (l : List Batch) → numbers_of (unbuffer n l) ≡ without n (numbers_of l)
nums_unbuffer n [] = refl
nums_unbuffer n (b ∷ l) = by_case (eqb n b.number) (λ e. rw e (nums_unbuffer n l)) (λ e. rw e (ap (λ z. b.number ∷ z) (nums_unbuffer n l)))

pub unbuffer_none : (n : ℕ) (l : List Batch) → has n (numbers_of l) ≡ false → unbuffer n l ≡ l
unbuffer_none n [] h = refl
unbuffer_none n (b ∷ l) h =
    by_case (eqb n b.number) (λ e. absurd (true≢false (rw e at h))) (λ e. rw e (ap (λ z. b ∷ z) (unbuffer_none n l (rw e at h))))

pub length-unbuffer : (n : ℕ) (l : List Batch) → length (unbuffer n l) ≤ length l
length-unbuffer n [] = omega arith
length-unbuffer n (b ∷ l) =
    by_case (eqb n b.number) (λ e. rw e (omega (arith, length-unbuffer n l))) (λ e. rw e (omega (arith, length-unbuffer n l)))

pub has-keep-false : (f : ℕ → Bool) (m : ℕ) (l : List ℕ) → has m l ≡ false → has m (keep f l) ≡ false
has-keep-false f m [] h = refl
has-keep-false f m (k ∷ l) h =
    by_case (eqb m k)
    (λ e. absurd (true≢false (rw e at h)))
    (λ e. by_case (f k) (λ t. rw (t, e) (has-keep-false f m l (rw e at h))) (λ t. rw t (has-keep-false f m l (rw e at h))))

pub once_keep : (f : ℕ → Bool) (l : List ℕ) → Once l → Once (keep f l)
once_keep f [] o = tt
once_keep f (k ∷ l) o =
    by_case (f k) (λ t. rw t (has-keep-false f k l o.0, once_keep f l o.1)) (λ t. rw t (once_keep f l o.1))

pub hand_unbuffer : (n : ℕ) (rows : List ℕ) (l : List Batch) (x : Hand) → has n rows ≡ true → HandOk rows l x → HandOk rows (unbuffer n l) x
hand_unbuffer n rows l empty h y = tt
hand_unbuffer n rows l (holds m r) h (inl y) = inl y
hand_unbuffer n rows [] (holds m r) h (inr y) = inr y
hand_unbuffer n rows (b ∷ l) (holds m r) h (inr y) =
    by_case (eqb n b.number)
    (λ t. inl (rw (eqb-true m b.number y.1, ← eqb-true n b.number t) h))
    (λ t. rw t (inr y))

-- ── sweep ──
-- something is not kept
pub length-keep_less : (f : ℕ → Bool) (x : ℕ) (l : List ℕ) → has x l ≡ true → f x ≡ false → length (keep f l) < length l
length-keep_less f x [] h e = absurd (true≢false (sym h))
length-keep_less f x (y ∷ l) h e =
    by_case (eqb x y)
    (λ t. rw (← eqb-true x y t, e) (omega (arith, length-keep f l)))
    (λ t. by_case (f y) (λ u. rw u (omega (arith, length-keep_less f x l (rw t at h) e)))
    (λ u. rw u (omega (arith, length-keep_less f x l (rw t at h) e))))

pub not_swept : (f : ℕ → Bool) (m : ℕ) (l : List ℕ) → all f l ≡ true → f m ≡ false → has m l ≡ false
not_swept f m [] a e = refl
not_swept f m (k ∷ l) a e =
    by_case (eqb m k) (λ t. absurd (true≢false (sym (all_head f k l a) ∙ ap f (sym (eqb-true m k t)) ∙ e)))
    (λ t. rw t (not_swept f m l (all_tail f k l a) e))

pub has_kept : (s : List ℕ) (m : ℕ) (l : List ℕ) → has m s ≡ false → has m (keep (λ n. not (has n s)) l) ≡ has m l
has_kept s m [] h = refl
has_kept s m (k ∷ l) h =
    by_case (has k s)
    (λ t. rw t (by_case (eqb m k) (λ e. absurd (true≢false (sym t ∙ rw (← eqb-true m k e) h))) (λ e. rw e (has_kept s m l h))))
    (λ t. rw t (by_case (eqb m k) (λ e. rw e) (λ e. rw e (has_kept s m l h))))

pub pending_rows : (rows rows' : List ℕ) (l : List Batch) → ((n : ℕ) → has n (numbers_of l) ≡ true → has n rows' ≡ has n rows)
    → pending rows' l ≡ pending rows l
pending_rows rows rows' [] h = refl
pending_rows rows rows' (b ∷ l) h =
    go (pending_rows rows rows' l (λ n e. h n (by_case (eqb n b.number) (λ t. rw t) (λ t. rw t e))))
  where
    go : pending rows' l ≡ pending rows l → pending rows' (b ∷ l) ≡ pending rows (b ∷ l)
    go ih = rw (h b.number (rw (self b.number))) (by_case (has b.number rows) (λ t. rw t ih) (λ t. rw t (ap (λ z. b ∷ z) ih)))

pub tail_keep : (f : ℕ → Bool) (rows : List ℕ) (l : List Batch) → NoRows rows l → NoRows (keep f rows) l
tail_keep f rows [] r = tt
tail_keep f rows (b ∷ l) r = (has-keep-false f b.number rows r.0, tail_keep f rows l r.1)

pub tail_free_keep : (f : ℕ → Bool) (rows : List ℕ) (l : List Batch) → TailFree rows l → TailFree (keep f rows) l
tail_free_keep f rows [] r = tt
tail_free_keep f rows (b ∷ l) r = tail_keep f rows l r

pub hand_keep : (rows rows' : List ℕ) (l : List Batch) (x : Hand) → ((n : ℕ) → in_hand n x ≡ true → has n rows' ≡ has n rows) → HandOk rows l x
    → HandOk rows' l x
hand_keep rows rows' l empty h y = tt
hand_keep rows rows' l (holds m r) h (inl y) = inl (h m (self m) ∙ y)
hand_keep rows rows' l (holds m r) h (inr y) = inr y

pub in_any : (hands : ℕ → Hand) (n v : ℕ) → v < worker_count → in_hand n (hands v) ≡ true → any_hand hands n ≡ true
in_any hands n v h e = any-upto (λ w. in_hand n (hands w)) worker_count v h e

pub buffered_nums : (n : ℕ) (l : List Batch) → is_buffered n l ≡ has n (numbers_of l)
buffered_nums n [] = refl
buffered_nums n (b ∷ l) = by_case (eqb n b.number) (λ e. rw e) (λ e. rw e (buffered_nums n l))

pub and_false : (a b : Bool) → b ≡ false → a && b ≡ false
and_false true b e = e
and_false false b e = refl

pub not_held : (p : Plant) (n : ℕ) → (is_buffered n p.buffer ≡ true) ⊎ (any_hand p.hands n ≡ true) → removable p n ≡ false
not_held p n (inl e) = rw e
not_held p n (inr e) = rw e (and_false (not (is_buffered n p.buffer)) false refl)

-- ── commit ──
pub no_rows_last : (rows : List ℕ) (l : List Batch) (b : Batch) → has b.number rows ≡ false → NoRows rows l → NoRows rows (l ++ (b ∷ []))
no_rows_last rows [] b h r = (h, tt)
no_rows_last rows (x ∷ l) b h r = (r.0, no_rows_last rows l b h r.1)

pub tail_last : (rows : List ℕ) (l : List Batch) (b : Batch) → has b.number rows ≡ false → TailFree rows l → TailFree rows (l ++ (b ∷ []))
tail_last rows [] b h r = tt
tail_last rows (x ∷ l) b h r = no_rows_last rows l b h r

pub hand_last : (rows : List ℕ) (l m : List Batch) (x : Hand) → HandOk rows l x → HandOk rows (l ++ m) x
hand_last rows l m empty y = tt
hand_last rows l m (holds n r) (inl y) = inl y
hand_last rows [] m (holds n r) (inr y) = absurd (true≢false (sym y.1))
hand_last rows (b ∷ l) m (holds n r) (inr y) = inr y

-- changes find room in the buffer
pub buffer_room : (cs : List Update) (l : List Batch) → not (is_empty cs) && leb buffer_limit (length l) ≡ false → is_empty cs ≡ false
    → length l < buffer_limit
buffer_room cs l r e = by_case (leb buffer_limit (length l)) (λ t. absurd (true≢false (rw (e, t) at r))) (λ t. leb-false buffer_limit (length l) t)

-- ── a carried session ──
-- a session without a row finds room for one
pub row_room : (n : ℕ) (rows : List ℕ) → leb row_limit (length rows) && not (has n rows) ≡ false → has n rows ≡ false → length rows < row_limit
row_room n rows r e = by_case (leb row_limit (length rows)) (λ t. absurd (true≢false (rw (t, e) at r))) (λ t. leb-false row_limit (length rows) t)

pub carried_row : (n : ℕ) (p : Plant) → leb row_limit (length p.rows) && not (has n p.rows) ≡ false → has n (carried n p).rows ≡ true
unfolding carried
carried_row n p r =
    by_case (has n p.rows) (λ e. rw e e) (λ e. rw (e, pushed_room row_limit p.rows n (row_room n p.rows r e)) (has_last n p.rows))

pub carried_hands : (n : ℕ) (p : Plant) → (carried n p).hands ≡ p.hands
unfolding carried
carried_hands n p = by_case (has n p.rows) (λ e. rw e) (λ e. rw e)

pub carried_slots : (n : ℕ) (p : Plant) → (carried n p).slots ≡ p.slots
unfolding carried
carried_slots n p = by_case (has n p.rows) (λ e. rw e) (λ e. rw e)

pub carried_next : (n : ℕ) (p : Plant) → (carried n p).next ≡ p.next
unfolding carried
carried_next n p = by_case (has n p.rows) (λ e. rw e) (λ e. rw e)
