-- The invariant is kept by refusals, load, map, begin, read, change, commit and advance.
use Prim.Native.Nat.{◌*◌, ◌+◌, suc, ℕ}
use native.Mathlib.Omega.{arith}
use mathlib.Core.Path.{◌∙◌, ◌≡◌, ap, fun_ext, refl, subst, sym}
use mathlib.Core.Bool.{◌&&◌, false, not, true, true≢false}
use mathlib.Core.Option.{Option, none, some}
use mathlib.Core.List.{List, [], ◌++◌, ◌∷◌, append-nil, map, nil≢cons}
use lib.ListN.{drop, length, take}
use lib.Seq.{take_at}
use lib.Dec.{leb}
use lib.IntN.{ℤ}
use borrow.Author.Tests.{leb-false, lt-ltb, not-true}
use Rattle.rules.specs.Lists.{any, is_empty, override, has}
use Rattle.rules.specs.Limits.{slot_limit, change_limit, buffer_limit, words_per_field}
use Rattle.rules.specs.Refusals.{Refusal, ends_session}
use Rattle.rules.specs.Values.{nat_of, Place, Stock, show_all}
use Rattle.rules.specs.Changes.{Update, meets, follow, place_of, update_of}
use Rattle.rules.specs.Tables.{has_slot, session, freed, others_exclusive, Batch, is_buffered, Plant, with_slots}
use Rattle.rules.specs.Reading.{seen}
use Rattle.rules.specs.Calls.{Pairs, places_of, Call, Load, Map, Begin, Read, Change, Commit}
use Rattle.rules.specs.Conditions.{session_at, own, ever_begun}
use Rattle.rules.specs.Effects.{loaded, mapped, opened, first_doomed, room, begun, with_shared, only_at, after_read, grant, changed, committed, lapse, advanced}
use Rattle.rules.specs.Step.{session_of, ending, after_refusal}
use Rattle.rules.specs.Kept.{is_fresh}
use Rattle.rules.specs.History.{changes_of, Committed, History, whole, whole_history, note}
use Rattle.rules.proofs.Laws.{by_case, and_true, follow_append, whole_append, all_right_append, pushed_room}
use Rattle.rules.proofs.Slots.{session-each, session-freed, session_snoc, has_slot_lem, others_not, none_other}
use Rattle.rules.proofs.KeptParts.{Kept}
use Rattle.rules.proofs.Buffer.{buffer_room}
use Rattle.rules.proofs.Invariant.{Owes, none_owed, skips, owes, Sessions, Inv}
use Rattle.rules.proofs.Workers.{current_is_history, workers_commit}
use Rattle.rules.proofs.Words.{length-show_all}
use Rattle.rules.proofs.Sessions.{sessions_cast, sessions_end, sessions_read, sessions_change, sessions_lapse, sessions_commit, sessions_open}
use Rattle.rules.proofs.KeptSlots.{room_fits, slots_room, no_next}
use Rattle.rules.proofs.KeptTables.{numbers_nil}
use Rattle.rules.proofs.KeptSetup.{number_look, has-begun}

-- ── a session ends ──
pub inv_end : {h : History} {p : Plant} (s : ℕ) → Inv h p → Inv h (with_slots (freed s p.slots) p)
inv_end {h} {p} s i =
    record {
      workers = i.workers;
      alone = i.alone;
      sessions = sessions_cast _ (sessions_end s i.sessions) (λ m. session-freed s m p.slots);
      keys = i.keys;
      early = i.early;
    }

pub inv_refused : {h : History} {p : Plant} (c : Call) (r : Refusal) → Inv h p → Inv h (after_refusal c r p)
inv_refused {h} {p} c r i = by_case (ends_session r) (λ e. rw e (go (session_of c))) (λ e. rw e i)
  where
    go : (o : Option ℕ) → Inv h (ending o p)
    go none = i
    go (some s) = inv_end s i

-- ── set-up calls ──
pub nil_left : {A : Type 0} (a b : List A) → a ++ b ≡ [] → a ≡ []
nil_left [] b e = refl
nil_left (x ∷ a) b e = absurd (nil≢cons (sym e))

pub nil_right : {A : Type 0} (a b : List A) → a ++ b ≡ [] → b ≡ []
nil_right [] b e = e
nil_right (x ∷ a) b e = absurd (nil≢cons (sym e))

pub owes_nil : (S S' : Stock) (l : List Committed) (bs : List Batch) → l ≡ [] → Owes S l bs → Owes S' l bs
owes_nil S S' l bs e none_owed = none_owed
owes_nil S S' l bs e (skips q d o) = absurd (nil≢cons (sym e))
owes_nil S S' l bs e (owes d o) = absurd (nil≢cons (sym e))

pub inv_load : {h : History} {p : Plant} (d f k v : ℤ) (ws : List ℤ) → ever_begun p ≡ false → Kept p → Inv h p
    → Inv (note (Load d f k v) [] ws h) (loaded (update_of (place_of d f) (nat_of k) v) p)
unfolding note loaded
inv_load {h} {p} d f k v ws e kp i =
    record {
      workers =
          record {
            done = i.workers.done;
            left = i.workers.left;
            split = i.workers.split;
            stock = rw (i.workers.stock, nothing) refl;
            owed = owes_nil _ _ _ _ none_left i.workers.owed;
            names = i.workers.names;
            hand = i.workers.hand;
          };
      alone = rw (i.early e) tt;
      sessions = record {
        live = λ n d. absurd (true≢false (rw (numbers_nil (λ s. s.number) p.next p.slots kp.slots.numbers e) at d));
        apart = i.sessions.apart;
      };
      keys = i.keys;
      early = i.early;
    }
  where
    none_left : i.workers.left ≡ []
    none_left = nil_right i.workers.done i.workers.left (sym i.workers.split ∙ i.early e)

    nothing : i.workers.done ≡ []
    nothing = nil_left i.workers.done i.workers.left (sym i.workers.split ∙ i.early e)

pub inv_map : {h : History} {p : Plant} (k n : ℤ) (m : Pairs) (ws : List ℤ) → ever_begun p ≡ false → Inv h p
    → Inv (note (Map k n m) [] ws h) (mapped (nat_of k) (take (nat_of n) (places_of m)) p)
unfolding note mapped
inv_map {h} {p} k n m ws e i =
    record {
      workers = i.workers;
      alone = i.alone;
      sessions = i.sessions;
      keys = ap (λ (f : ℕ → List Place). override f (nat_of k) (take (nat_of n) (places_of m))) i.keys;
      early = i.early;
    }

-- ── begin ──
pub inv_begin : {h : History} {p : Plant} (ws : List ℤ)
    → leb slot_limit (length p.slots) && not (any (λ s. s.session.doomed) p.slots) ≡ false → Kept p → Inv h p → Inv
    (note Begin (p.next ∷ []) ws h) (begun p)
unfolding note begun
inv_begin {h} {p} ws r kp i =
    record {
      workers = i.workers;
      alone = i.alone;
      sessions = rw (pushed_room slot_limit (room p.slots) (opened p.next p.clock) (room_fits p.slots kp.slots.few r))
          (sessions_cast _ (sessions_open (λ m. has_slot m (room p.slots)) p.next p.clock
          (no_next p.next (room p.slots) (slots_room kp.slots).numbers) with_room) (λ m. session_snoc m (room p.slots)
          (opened p.next p.clock)));
      keys = i.keys;
      early = λ e. absurd (true≢false (sym (lt-ltb 1 (suc p.next) (omega (arith, kp.begun))) ∙ e));
    }
  where
    with_room : Sessions (whole_history h) h.page (λ m. session m (room p.slots))
    with_room =
        by_case (leb slot_limit (length p.slots))
        (λ e. rw e (sessions_cast _ (sessions_end (first_doomed p.slots) i.sessions) (λ m. session-freed (first_doomed p.slots) m p.slots)))
        (λ e. rw e i.sessions)

-- ── read ──
-- the kept changes do what the page's changes do
pub own_is : {h : History} {p : Plant} (s : ℕ) → (session s p.slots).doomed ≡ false → Inv h p
    → follow (whole_history h) (changes_of (h.page s)) ≡ follow (whole_history h) (session s p.slots).changes
own_is {h} {p} s a i = fun_ext (λ q. (i.sessions.live s a).same q)

-- what a session sees is the history followed by its page
pub seen_is : {h : History} {p : Plant} (s : ℕ) → (session s p.slots).doomed ≡ false → Inv h p
    → seen p (session s p.slots).changes ≡ follow (whole_history h) (changes_of (h.page s))
seen_is {h} {p} s a i = ap (λ z. follow z (session s p.slots).changes) (current_is_history i.workers) ∙ sym (own_is s a i)

pub inv_read : {h : History} {p : Plant} (s k : ℤ) (lent : List ℤ) (ns : List ℕ) → (session_at s p).doomed ≡ false
    → any (λ q. others_exclusive (nat_of s) q.document p.slots) (p.keys (nat_of k)) ≡ false
    → Inv h p → Inv (note (Read s k) ns
    (show_all (map (seen p (own s p)) (p.keys (nat_of k))) ++ drop (words_per_field * length (p.keys (nat_of k))) lent) h) (after_read (nat_of s)
    (nat_of k) p)
unfolding note after_read
inv_read {h} {p} s' k' lent ns a o i =
    record {
      workers = i.workers;
      alone = i.alone;
      sessions =
          rw i.keys
          (sessions_cast _ (sessions_read (λ m. has_slot m p.slots) p.clock s (p.keys k) _ a words
          (λ d n u e. none_other s p.slots (p.keys k) d n o u e) i.sessions)
          (λ m. session-each (only_at s (with_shared p.clock (p.keys k))) m p.slots)
          );
      keys = i.keys;
      early = i.early;
    }
  where
    s : ℕ
    s = nat_of s'

    k : ℕ
    k = nat_of k'

    words : take (words_per_field * length (p.keys k))
        (show_all (map (seen p (own s' p)) (p.keys k)) ++ drop (words_per_field * length (p.keys k)) lent) ≡ show_all
        (map (follow (whole_history h) (changes_of (h.page s))) (p.keys k))
    words = rw (seen_is s a i) (take_at _ _ _ (length-show_all _ (p.keys k)))

-- ── change ──
pub inv_change : {h : History} {p : Plant} (s d f k v : ℤ) (ns : List ℕ) (ws : List ℤ) → (session_at s p).doomed ≡ false
    → leb change_limit (length (own s p)) ≡ false
    → others_exclusive (nat_of s) (nat_of d) p.slots ≡ false
    → meets (update_of (place_of d f) (nat_of k) v) (seen p (own s p) (place_of d f)) ≡ none
    → Inv h p → Inv (note (Change s d f k v) ns ws h) (changed (nat_of s) (update_of (place_of d f) (nat_of k) v) p)
unfolding note changed
inv_change {h} {p} s d f k v ns ws a r o m i =
    record {
      workers = i.workers;
      alone = i.alone;
      sessions =
          sessions_cast _
          (sessions_change (λ m. has_slot m p.slots) p.clock (nat_of s) c a (leb-false change_limit (length (own s p)) r) accepted_there
          (λ n e. others_not (nat_of s) n (nat_of d) p.slots o e) i.sessions)
          (λ n. session-each (grant p.clock (nat_of s) c) n p.slots);
      keys = i.keys;
      early = i.early;
    }
  where
    c : Update
    c = update_of (place_of d f) (nat_of k) v

    accepted_there : meets c (follow (whole_history h) (changes_of (h.page (nat_of s))) (place_of d f)) ≡ none
    accepted_there = subst (λ (z : Stock). meets c (z (place_of d f)) ≡ none) (seen_is (nat_of s) a i) m

-- ── commit ──
pub now_commit : (h : History) (x : Committed) → follow (whole_history h) (changes_of x.page) ≡ follow h.start (whole (h.commits ++ (x ∷ [])))
now_commit h x =
    rw (whole_append h.commits (x ∷ []), append-nil (changes_of x.page))
    (sym (follow_append h.start (whole h.commits) (changes_of x.page)))

pub inv_commit : {h : History} {p : Plant} (s : ℤ) (ns : List ℕ) (ws : List ℤ) → (session_at s p).doomed ≡ false
    → not (is_empty (own s p)) && leb buffer_limit (length p.buffer) ≡ false → Kept p → Inv h p → Inv (note (Commit s) ns ws h)
    (committed (nat_of s) p)
unfolding note committed
inv_commit {h} {p} s' ns ws a r kp i =
    record {
      workers =
          workers_commit x cs (buffer_room cs p.buffer r)
          (not-true _ (and_true (not (is_buffered s p.buffer)) (not (has s p.rows))
          (number_look (is_fresh p.buffer p.rows) s p.slots
          kp.fresh th)).1) (i.sessions.live s a).silent (sym (own_is s a i)) i.workers;
      alone = all_right_append h.start h.commits (x ∷ []) i.alone ((i.sessions.live s a).right, tt);
      sessions =
          rw (← now_commit h x)
          (sessions_cast _ (sessions_commit s a i.sessions) (λ m. session-freed s m p.slots));
      keys = i.keys;
      early = λ e. absurd (true≢false (sym (has-begun s th kp) ∙ e));
    }
  where
    s : ℕ
    s = nat_of s'

    cs : List Update
    cs = own s' p

    x : Committed
    x = record { number = s; page = h.page s }

    th : has_slot s p.slots ≡ true
    th = has_slot_lem s p.slots a

-- ── advance ──
pub inv_advance : {h : History} {p : Plant} (n : ℕ) → Inv h p → Inv h (advanced n p)
unfolding advanced
inv_advance {h} {p} n i =
    record {
      workers = i.workers;
      alone = i.alone;
      sessions =
          sessions_cast _ (sessions_lapse (λ m. has_slot m p.slots) (p.clock + n) i.sessions)
          (λ m. session-each (lapse (p.clock + n)) m p.slots);
      keys = i.keys;
      early = i.early;
    }
