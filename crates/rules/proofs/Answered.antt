-- What each accepted call leaves, in the words of its answer. Of any plant: what a proof needs of its rules stands in its premises.
use Prim.Native.Nat.{◌<◌, ◌≤◌, suc, ℕ}
use native.Mathlib.Omega.{arith}
use mathlib.Core.Path.{◌∙◌, ◌≡◌, ap, refl, sym}
use mathlib.Core.Bool.{Bool, ◌&&◌, cond, false, not, true, true≢false}
use mathlib.Core.Option.{some}
use mathlib.Core.Logic.{inl, inr}
use mathlib.Core.List.{List, [], ◌++◌, ◌∷◌, map}
use lib.ListN.{length, length-append}
use lib.Dec.{eqb, leb}
use lib.IntN.{negsuc, pos, ℤ}
use borrow.Author.Tests.{eqb-true, leb-false, leb-true, ltb-false}
use Rattle.rules.specs.Lists.{any, is_empty, has, is_case, case_of, same_case}
use Rattle.rules.specs.Limits.{cache_limit, change_limit, buffer_limit, row_limit, last_session}
use Rattle.rules.specs.Values.{nat_of, is_natural}
use Rattle.rules.specs.Changes.{Update, touches}
use Rattle.rules.specs.Tables.{is_held, doomed_session, Slot, has_slot, session, freed, Cached, is_cached, Batch, numbers_of, is_buffered, oldest, is_oldest, batch_of, unbuffer, Hand, empty, holds, full, replied, handed, Queue, leased, Plant, with_hand, with_queue}
use Rattle.rules.specs.Reading.{current}
use Rattle.rules.specs.Calls.{Fate, arrives, lost, unreached, fate_number, Begin, Apply, Report, from_cache, cached_now, own_change, Reply, no_word, done, done_before, reply_number}
use Rattle.rules.specs.Conditions.{no_room, conditions}
use Rattle.rules.specs.Effects.{begun, mark, evicted, cache_by, cache_after, with_exclusive, with_last, with_change, grant, changed, buffered_after, committed, abandoned, taken, carried, applied, reply_to, deleted, cut}
use Rattle.rules.specs.Step.{accepted}
use Rattle.rules.specs.Answers.{Marks, Buffers, Carries, Replies, has_come, Deletes}
use Rattle.rules.proofs.Laws.{by_case, self, not_met, NoneMet, and_true, case_number, pushed_room}
use Rattle.rules.proofs.Slots.{session-each, has_slot-freed}
use Rattle.rules.proofs.KeptParts.{NoRows, TailFree}
use Rattle.rules.proofs.Buffer.{unbuffer_none, buffered_nums, row_room, carried_hands}

-- ── begin ──
pub begin_counts : (p : Plant) → (begun p).next ≡ suc p.next
unfolding begun
begin_counts p = refl

pub begin_fits : (lent : List ℤ) (p : Plant) → NoneMet (conditions Begin lent p) → p.next ≤ last_session
unfolding conditions
begin_fits lent p m = ltb-false last_session p.next (not_met _ _ m.0)

-- ── read ──
pub evicted_room : (l : List Cached) → length l ≤ cache_limit → length (evicted l) < cache_limit
evicted_room [] few = omega arith
evicted_room (c ∷ l) few =
    by_case (leb cache_limit (length (c ∷ l))) (λ t. rw t (omega arith)) (λ t. rw t (leb-false cache_limit (length (c ∷ l)) t))

pub marks : (s k : ℕ) (p : Plant) → length p.cache ≤ cache_limit
    → Marks (mark s k p) k (any (touches (session s p.slots).changes) (p.keys k)) p.cache (cache_after s k p)
unfolding cache_after
marks s k p few = go (any (touches (session s p.slots).changes) (p.keys k)) (is_cached k p.cache) refl refl
  where
    new : Cached
    new = record { key = k; fields = map (current p) (p.keys k) }

    go : (t b : Bool) → any (touches (session s p.slots).changes) (p.keys k) ≡ t → is_cached k p.cache ≡ b
        → Marks (cond t own_change (cond b from_cache cached_now)) k (any (touches (session s p.slots).changes) (p.keys k)) p.cache
        (cache_by (cond t own_change (cond b from_cache cached_now)) new p.cache)
    go true b e d = (e, refl)
    go false true e d = (e, d, refl)
    go false false e d = (e, d, record { new = new; key = refl; last = pushed_room cache_limit (evicted p.cache) new (evicted_room p.cache few) })

-- ── change ──
pub changed_count : (s : ℕ) (c : Update) (p : Plant) → length (session s p.slots).changes < change_limit → has_slot s p.slots ≡ true
    → (session s (changed s c p).slots).changes ≡ (session s p.slots).changes ++ (c ∷ [])
unfolding changed grant with_exclusive with_last
changed_count s c p r h =
    ap (λ t. t.changes) (session-each (grant p.clock s c) s p.slots)
    ∙ ap (λ b. (cond b (grant p.clock s c s (session s p.slots)) doomed_session).changes) h
    ∙ ap (λ b. (cond b (with_change p.clock c (session s p.slots))
    (cond (is_held ((session s p.slots).lease c.at.document)) doomed_session (session s p.slots))).changes) (self s)
    ∙ pushed_room change_limit (session s p.slots).changes c r

pub changed-length : (s : ℕ) (c : Update) (p : Plant) → length (session s p.slots).changes < change_limit → has_slot s p.slots ≡ true
    → length (session s (changed s c p).slots).changes ≡ suc (length (session s p.slots).changes)
changed-length s c p r h = ap length (changed_count s c p r h) ∙ length-append (session s p.slots).changes (c ∷ []) ∙ omega arith

-- ── commit and abandon ──
no_slot_left : (s : ℕ) (l : List Slot) → has_slot s (freed s l) ≡ false
no_slot_left s l = has_slot-freed s s l ∙ rw (self s)

pub commit_ends : (s : ℕ) (p : Plant) → has_slot s (committed s p).slots ≡ false
unfolding committed
commit_ends s p = no_slot_left s p.slots

pub abandon_ends : (s : ℕ) (p : Plant) → has_slot s (abandoned s p).slots ≡ false
unfolding abandoned
abandon_ends s p = no_slot_left s p.slots

buffers_last : (s : ℕ) (cs : List Update) (l : List Batch) → not (is_empty cs) && leb buffer_limit (length l) ≡ false → Buffers s cs l (buffered_after s cs l)
buffers_last s [] l r = refl
buffers_last s (c ∷ cs) l r = pushed_room buffer_limit l (record { number = s; changes = c ∷ cs }) (leb-false buffer_limit (length l) r)

pub buffers : (s : ℕ) (p : Plant) → not (is_empty (session s p.slots).changes) && leb buffer_limit (length p.buffer) ≡ false
    → Buffers s (session s p.slots).changes p.buffer (committed s p).buffer
unfolding committed
buffers s p r = buffers_last s (session s p.slots).changes p.buffer r

-- ── take and cut ──
first_batch : (l : List Batch) → is_empty l ≡ false → (b : Batch) × (k : List Batch) × (l ≡ b ∷ k) × (oldest l ≡ b.number)
first_batch [] e = absurd (true≢false e)
first_batch (b ∷ k) e = (b, k, refl, refl)

pub takes : (w : ℕ) (p : Plant) → is_empty p.buffer ≡ false
    → (b : Batch) × (l : List Batch) × (p.buffer ≡ b ∷ l) × (oldest p.buffer ∷ [] ≡ b.number ∷ [])
    × ((taken w p).hands w ≡ holds b.number false)
    × ((taken w p).queue ≡ leased (some w) p.clock)
unfolding taken
takes w p e =
    let b = first_batch p.buffer e in
    (b.0, b.1, b.2, ap (λ n. n ∷ []) b.3, rw (self w) (ap (λ n. holds n false) b.3), refl)

pub cut_empties : (w : ℕ) (p : Plant) → (cut w p).hands w ≡ empty
unfolding cut
cut_empties w p = rw (self w)

-- ── apply ──
natural_is : (z : ℤ) → is_natural z ≡ true → z ≡ pos (nat_of z)
natural_is (pos n) e = refl
natural_is (negsuc n) e = absurd (true≢false (sym e))

-- an argument that is one of the cases has its number
pub case_is : {A : Type 0} (number : A → ℕ) (e : A) (l : List A) (z : ℤ) → is_natural z && is_case number l (nat_of z) ≡ true
    → z ≡ pos (number (case_of number e l (nat_of z)))
case_is number e l z g =
    let h = and_true (is_natural z) (is_case number l (nat_of z)) g in
    natural_is z h.0 ∙ ap pos (sym (case_number number e l (nat_of z) h.1))

pub hand_is : (h : Hand) (r : Bool) → full h ≡ true → replied h ≡ r → h ≡ holds (handed h) r
hand_is empty r f e = absurd (true≢false (sym f))
hand_is (holds m b) r f e = ap (holds m) e

oldest_is : (n : ℕ) (l : List Batch) → is_oldest n l ≡ true → (b : Batch) × (k : List Batch) × (l ≡ b ∷ k) × (b.number ≡ n) × (batch_of n l ≡ b.changes)
oldest_is n [] e = absurd (true≢false (sym e))
oldest_is n (b ∷ k) e = (b, k, refl, sym (eqb-true n b.number e), rw e)

-- a session without a row is carried
pub carries : (n : ℕ) (p q : Plant) → q.store ≡ (carried n p).store → q.rows ≡ (carried n p).rows → has n p.rows ≡ false
    → is_oldest n p.buffer ≡ true → length p.rows < row_limit → Carries n p q
unfolding carried
carries n p q s r e o lt =
    let b = oldest_is n p.buffer o in
    record {
      no_row = e;
      batch = b.0;
      later = b.1;
      oldest = b.2;
      number = b.3;
      store = s ∙ rw (e, b.4);
      row = r ∙ rw (e, pushed_room row_limit p.rows n lt);
    }

-- one with a row is not
pub stays_carried : (n : ℕ) (p : Plant) → has n p.rows ≡ true → carried n p ≡ p
unfolding carried
stays_carried n p e = rw e

abbrev pub Heard : Fate → ℕ → ℤ → Plant → Type 0
Heard x w fate p =
    (r : Reply) × (n : ℕ) × (reply_number (reply_to x w p) ∷ [] ≡ reply_number r ∷ []) × (p.hands w ≡ holds n false)
    × ((applied x w p).hands w ≡ holds n (has_come r))
    × Replies r fate n p (applied x w p)

abbrev pub held : ℕ → Plant → ℕ
held w p = handed (p.hands w)

module _ (w : ℕ) (fate : ℤ) (p : Plant) (hand : p.hands w ≡ holds (held w p) false)
    (first : has (held w p) p.rows ≡ false → is_oldest (held w p) p.buffer ≡ true) where
  heard_reply : fate ≡ pos (fate_number arrives) → no_room w p ≡ false → Heard arrives w fate p
  unfolding applied
  heard_reply f r =
      by_case (has (held w p) p.rows)
      (λ e. (
        done_before,
        held w p,
        ap (λ b. reply_number (cond b done_before done) ∷ []) e,
        hand,
        rw (self w),
        (
          f,
          e,
          record { store = ap (λ q. q.store) (stays_carried (held w p) p e); rows = ap (λ q. q.rows) (stays_carried (held w p) p e) },
        ),
      ))
      (λ e. (
        done,
        held w p,
        ap (λ b. reply_number (cond b done_before done) ∷ []) e,
        hand,
        rw (self w),
        (
          f,
          carries (held w p) p (applied arrives w p) refl refl e (first e) (row_room (held w p) p.rows r e),
        ),
      ))

  heard_nothing : length p.rows ≤ row_limit → fate ≡ pos (fate_number lost) → Heard lost w fate p
  unfolding applied
  heard_nothing few f =
      by_case (no_room w p)
      (λ t. rw t (
        no_word,
        held w p,
        refl,
        hand,
        hand,
        inl (
          f,
          inr (
            inr (omega (arith, leb-true row_limit (length p.rows) (and_true _ _ t).0)),
            record { store = refl; rows = refl },
          ),
        ),
      ))
      (λ t. rw t (by_case (has (held w p) p.rows)
      (λ e. rw (stays_carried (held w p) p e) (no_word, held w p, refl, hand, hand, inl (f, inr (inl e, record { store = refl; rows = refl }))))
      (λ e. (
        no_word,
        held w p,
        refl,
        hand,
        ap (λ h. h w) (carried_hands (held w p) p) ∙ hand,
        inl (f, inl (carries (held w p) p (carried (held w p) p) refl refl e (first e) (row_room (held w p) p.rows t e))),
      ))))

pub heard : (x : Fate) (w : ℕ) (fate : ℤ) (p : Plant) → fate ≡ pos (fate_number x) → p.hands w ≡ holds (held w p) false
    → (has (held w p) p.rows ≡ false → is_oldest (held w p) p.buffer ≡ true) → length p.rows ≤ row_limit
    → same_case fate_number x arrives && no_room w p ≡ false → Heard x w fate p
unfolding applied
heard arrives w fate p f hand first few r = heard_reply w fate p hand first f r
heard lost w fate p f hand first few r = heard_nothing w fate p hand first few f
heard unreached w fate p f hand first few r = (no_word, held w p, refl, hand, hand, inr (f, record { store = refl; rows = refl }))

-- under another queue lease an apply asks, answers and leaves the same
pub asks_unseen : (w fate : ℤ) (lent : List ℤ) (p : Plant) (other : Queue) → conditions (Apply w fate) lent (with_queue other p) ≡ conditions (Apply w fate) lent p
unfolding conditions
asks_unseen w fate lent p other = refl

carried_unseen : (n : ℕ) (p : Plant) (other : Queue) → carried n (with_queue other p) ≡ with_queue other (carried n p)
unfolding carried
carried_unseen n p other = by_case (has n p.rows) (λ e. rw e) (λ e. rw e)

pub applied_unseen : (x : Fate) (w : ℕ) (p : Plant) (other : Queue) → applied x w (with_queue other p) ≡ with_queue other (applied x w p)
unfolding applied
applied_unseen arrives w p other = ap (with_hand w (holds (handed (p.hands w)) true)) (carried_unseen (handed (p.hands w)) p other)
applied_unseen lost w p other = by_case (no_room w p) (λ e. rw e) (λ e. rw e (carried_unseen (handed (p.hands w)) p other))
applied_unseen unreached w p other = refl

pub reply_unseen : (x : Fate) (w : ℕ) (p : Plant) (other : Queue) → reply_to x w (with_queue other p) ≡ reply_to x w p
reply_unseen arrives w p other = refl
reply_unseen lost w p other = refl
reply_unseen unreached w p other = refl

-- ── delete ──
no_rows_has : (n : ℕ) (rows : List ℕ) (l : List Batch) → has n rows ≡ true → NoRows rows l → has n (numbers_of l) ≡ false
no_rows_has n rows [] h r = refl
no_rows_has n rows (b ∷ l) h r =
    by_case (eqb n b.number)
    (λ e. absurd (true≢false (sym h ∙ ap (λ m. has m rows) (eqb-true n b.number e) ∙ r.0)))
    (λ e. rw e (no_rows_has n rows l h r.1))

-- a session with a row is buffered as the oldest or not at all
deletes-oldest : (n : ℕ) (rows : List ℕ) (l : List Batch) → has n rows ≡ true → TailFree rows l → Deletes (is_buffered n l) n l (unbuffer n l)
deletes-oldest n rows [] h t = (refl, refl)
deletes-oldest n rows (b ∷ l) h t = go (eqb n b.number) refl
  where
    none_later : has n (numbers_of l) ≡ false
    none_later = no_rows_has n rows l h t

    go : (o : Bool) → eqb n b.number ≡ o → Deletes (is_buffered n (b ∷ l)) n (b ∷ l) (unbuffer n (b ∷ l))
    go true e = rw e (b, sym (eqb-true n b.number e), ap (λ k. b ∷ k) (sym (unbuffer_none n l none_later)))
    go false e = rw (e, buffered_nums n l, none_later, unbuffer_none n l none_later) (rw e (buffered_nums n l ∙ none_later), refl)

pub delete_empties : (w : ℕ) (p : Plant) → (deleted w p).hands w ≡ empty
unfolding deleted
delete_empties w p = rw (self w)

pub deletes : (w : ℕ) (p : Plant) → has (held w p) p.rows ≡ true → TailFree p.rows p.buffer
    → Deletes (is_buffered (held w p) p.buffer) (held w p) p.buffer (deleted w p).buffer
unfolding deleted
deletes w p h t = deletes-oldest (held w p) p.rows p.buffer h t

-- ── report ──
pub report_leaves : (s : ℤ) (lent : List ℤ) (p : Plant) → (accepted (Report s) lent p).plant ≡ p
unfolding accepted
report_leaves s lent p = refl
