-- A known field, found without the store, is what the session sees.
use Prim.Native.Nat.{◌*◌, ◌<◌, ℕ}
use mathlib.Core.Path.{◌∙◌, ◌≡◌, ap, ap₂, refl, sym}
use mathlib.Core.Bool.{Bool, ◌&&◌, ◌||◌, cond, false, not, true, true≢false}
use mathlib.Core.Option.{none}
use mathlib.Core.List.{List, [], ◌++◌, ◌∷◌, map}
use lib.ListN.{drop, length}
use lib.Dec.{eqb, leb}
use borrow.Author.Tests.{eqb-true, not-false}
use Rattle.rules.specs.Lists.{any, all, is_empty, has}
use Rattle.rules.specs.Limits.{key_count, place_limit, words_per_field}
use Rattle.rules.specs.Values.{nat_of, Place, same_place, in_range, twice, Field, absent, Stock, show_all}
use Rattle.rules.specs.Changes.{Kind, set, unset, inc, add, push, pull, Update, change, outcome_refusal, meets, run, follow, is_set, sets_it, place_of, update_ok}
use Rattle.rules.specs.Tables.{is_held, documents, Session, has_slot, session, Cached, is_cached, Batch, pending, changes_in, Plant}
use Rattle.rules.specs.Reading.{current, seen, shows_it, field_at, cached_field, known_away, seen_away, known}
use Rattle.rules.specs.Calls.{Read, Change}
use Rattle.rules.specs.Conditions.{own, conditions}
use Rattle.rules.specs.Effects.{touched}
use Rattle.rules.specs.Step.{accepted}
use Rattle.rules.specs.Kept.{session_ok, batch_ok}
use Rattle.rules.specs.Claims.{KnownAway, StoreAway, SeenFits}
use Rattle.rules.proofs.Laws.{by_case, not_met, and_true, below_is, run_append, same_place_is, nil_is}
use Rattle.rules.proofs.Tests.{all_head, all_tail, all_imp, all_join}
use Rattle.rules.proofs.Accepts.{run_ok, run-set, sets_append}
use Rattle.rules.proofs.Steps.{step-fine, fine-none}
use Rattle.rules.proofs.Slots.{no_slot}
use Rattle.rules.proofs.KeptParts.{CachedRight, BufferKept, Kept}
use Rattle.rules.proofs.Buffer.{pending_free}
use Rattle.rules.proofs.Words.{map_untouched}
use Rattle.rules.proofs.KeptSlots.{live_parts, look_all}
use Rattle.rules.proofs.KeptTables.{batch_formed}
use Rattle.rules.proofs.KeptTest.{kept_iff}

-- ── a cached key shows the current stock ──
field_at_lem : (s : Stock) (q : Place) (qs : List Place) → any (same_place q) qs ≡ true → field_at q qs (map s qs) ≡ s q
field_at_lem s q [] e = absurd (true≢false (sym e))
field_at_lem s q (r ∷ qs) e = by_case (same_place q r) (λ t. rw t (ap s (sym (same_place_is q r t)))) (λ t. rw t (field_at_lem s q qs (rw t at e)))

pub cached_shows : (now : Stock) (keys : ℕ → List Place) (q : Place) (l : List Cached) → CachedRight now keys l → any (shows_it keys q) l ≡ true
    → cached_field keys q l ≡ now q
unfolding shows_it
cached_shows now keys q [] h e = absurd (true≢false (sym e))
cached_shows now keys q (c ∷ l) h e =
    by_case (shows_it keys q c)
    (λ t. ap (λ b. cond b (field_at q (keys c.key) c.fields) (cached_field keys q l)) t ∙ ap (field_at q (keys c.key)) h.0 ∙ field_at_lem now q
    (keys c.key) t)
    (λ t. ap (λ b. cond b (field_at q (keys c.key) c.fields) (cached_field keys q l)) t ∙ cached_shows now keys q l h.1
    (ap (λ b. cond b true (any (shows_it keys q) l)) (sym t) ∙ e))

-- ── the buffer's newest set or unset, with a row or without ──
pub buffer_shows : (store : Stock) (rows : List ℕ) (next : ℕ) (l : List Batch) (q : Place) → in_range q ≡ true → BufferKept store rows next l
    → sets_it (changes_in l) q ≡ true
    → run (changes_in l) q absent ≡ follow store (changes_in (pending rows l)) q
buffer_shows store rows next [] q r k e = absurd (true≢false (sym e))
buffer_shows store rows next (b ∷ l) q r k e =
    by_case (has b.number rows)
    (λ t. applied t (ap (λ z. cond (not z) (b ∷ pending rows l) (pending rows l)) t ∙ tail_is))
    (λ t. run-set (changes_in (b ∷ l)) q absent (store q) e ∙ ap (λ z. run (changes_in z) q (store q))
    (sym (ap (λ z. cond (not z) (b ∷ pending rows l) (pending rows l)) t ∙ ap (λ z. b ∷ z) tail_is)))
  where
    tail_is : pending rows l ≡ l
    tail_is = pending_free rows l k.tail

    applied : has b.number rows ≡ true → pending rows (b ∷ l) ≡ l
        → run (changes_in (b ∷ l)) q absent ≡ follow store (changes_in (pending rows (b ∷ l))) q
    applied t p =
        run_append b.changes (changes_in l) q absent
        ∙ by_case (sets_it b.changes q)
        (λ u. ap (run (changes_in l) q) (sym (k.shown t q r u)))
        (λ u. run-set (changes_in l) q (run b.changes q absent) (store q)
        (ap (λ z. z || sets_it (changes_in l) q) (sym u) ∙ sym (sets_append b.changes (changes_in l) q) ∙ e))
        ∙ ap (λ z. run (changes_in z) q (store q)) (sym p)

-- ── the value without the store ──
pub seen-away : (p : Plant) (cs : List Update) (q : Place) → Kept p → in_range q ≡ true → known_away p.keys p.cache p.buffer cs q ≡ true
    → seen_away p.keys p.cache p.buffer cs q ≡ seen p cs q
unfolding seen_away
seen-away p cs q k r e =
    by_case (sets_it cs q)
    (λ t. rw t (run-set cs q absent (current p q) t))
    (λ t. rw t (ap (run cs q)
    (by_case (sets_it (changes_in p.buffer) q)
    (λ u. rw u (buffer_shows p.store p.rows p.next p.buffer q r k.buffer u))
    (λ u. rw u (cached_shows (current p) p.keys q p.cache k.cache.fields
    (last (any (shows_it p.keys q) p.cache) (sets_it (changes_in p.buffer) q) (sets_it cs q) u t e))))))
  where
    last : (a b c : Bool) → b ≡ false → c ≡ false → a || b || c ≡ true → a ≡ true
    last true b c x y z = refl
    last false true c x y z = absurd (true≢false x)
    last false false c x y z = absurd (true≢false (sym z ∙ y))

-- ── the value as code finds it: with the store where it is near, without it where it is away ──
abbrev pub value : Plant → List Update → Place → Field
value p cs q = cond p.near (seen p cs q) (seen_away p.keys p.cache p.buffer cs q)

pub value_is : (p : Plant) (cs : List Update) (q : Place) → Kept p → in_range q ≡ true → known p cs q ≡ true → value p cs q ≡ seen p cs q
value_is p cs q k r e =
    by_case p.near
    (λ t. ap (λ b. cond b (seen p cs q) (seen_away p.keys p.cache p.buffer cs q)) t)
    (λ t. ap (λ b. cond b (seen p cs q) (seen_away p.keys p.cache p.buffer cs q)) t ∙ seen-away p cs q k r
    (away p.near (known_away p.keys p.cache p.buffer cs q) t e))
  where
    away : (a b : Bool) → a ≡ false → a || b ≡ true → b ≡ true
    away true b x y = absurd (true≢false x)
    away false b x y = y

-- a set or unset meets no refusal, whatever the field is, so it needs no known one
pub set-meets : (c : Update) (f : Field) → is_set c.kind ≡ true → meets c f ≡ none
unfolding meets outcome_refusal change
set-meets c f e = go c.kind e
  where
    go : (k : Kind) → is_set k ≡ true → outcome_refusal (change k c.value f) ≡ none
    go set h = refl
    go unset h = refl
    go inc h = absurd (true≢false (sym h))
    go add h = absurd (true≢false (sym h))
    go push h = absurd (true≢false (sym h))
    go pull h = absurd (true≢false (sym h))

-- a key's places are in range
pub key_places : (p : Plant) (k : ℕ) → Kept p → k < key_count → all in_range (p.keys k) ≡ true
key_places p k h lt =
    let a = and_true (leb (length (p.keys k)) place_limit && all in_range (p.keys k)) (not (twice (p.keys k))) (h.keys k lt) in
    (and_true (leb (length (p.keys k)) place_limit) (all in_range (p.keys k)) a.0).1

-- ── cached keys ──
abbrev pub cached_fields : ℕ → List Cached → List Field
cached_fields k [] = []
cached_fields k (c ∷ l) = cond (eqb k c.key) c.fields (cached_fields k l)

-- what a read with mark 0 may copy
pub cached_fields_lem : (p : Plant) (k : ℕ) → Kept p → is_cached k p.cache ≡ true → cached_fields k p.cache ≡ map (current p) (p.keys k)
cached_fields_lem p k h e = go p.cache h.cache.fields e
  where
    go : (l : List Cached) → CachedRight (current p) p.keys l → is_cached k l ≡ true → cached_fields k l ≡ map (current p) (p.keys k)
    go [] r t = absurd (true≢false (sym t))
    go (c ∷ l) r t = by_case (eqb k c.key) (λ u. rw (u, eqb-true k c.key u) r.0) (λ u. rw u (go l r.1 (rw u at t)))

-- without an cs change to a place, a read shows the current stock
pub untouched_shows : (p : Plant) (cs : List Update) (qs : List Place) → touched cs qs ≡ false → map (seen p cs) qs ≡ map (current p) qs
untouched_shows p cs qs e = map_untouched (current p) cs qs e

-- a cached key worked on by a commit's changes is up to date
abbrev pub refreshed : List Update → List Place → List Field → List Field
refreshed cs [] fs = []
refreshed cs (q ∷ qs) [] = []
refreshed cs (q ∷ qs) (f ∷ fs) = run cs q f ∷ refreshed cs qs fs

pub refreshed_is : (s : Stock) (cs : List Update) (qs : List Place) → refreshed cs qs (map s qs) ≡ map (follow s cs) qs
refreshed_is s cs [] = refl
refreshed_is s cs (q ∷ qs) = ap (λ z. run cs q (s q) ∷ z) (refreshed_is s cs qs)

pub known-away : KnownAway
known-away p cs q k r e = seen-away p cs q ((kept_iff p).0 k) r e

-- ── while the store is away ──
away-known : (p : Plant) (cs : List Update) (q : Place) → p.near ≡ false → known p cs q ≡ true → known_away p.keys p.cache p.buffer cs q ≡ true
away-known p cs q n e = ap (λ b. b || known_away p.keys p.cache p.buffer cs q) (sym n) ∙ e

seen_all : (p : Plant) (cs : List Update) → Kept p → p.near ≡ false → (qs : List Place) → all in_range qs ≡ true → any (λ q. not (known p cs q)) qs ≡ false
    → map (seen p cs) qs ≡ map (seen_away p.keys p.cache p.buffer cs) qs
seen_all p cs k n [] r e = refl
seen_all p cs k n (q ∷ qs) r e =
    by_case (known p cs q)
    (λ t. ap₂ ◌∷◌ (sym (seen-away p cs q k (all_head in_range q qs r) (away-known p cs q n t)))
    (seen_all p cs k n qs (all_tail in_range q qs r) (ap (λ b. cond (not b) true (any (λ x. not (known p cs x)) qs)) (sym t) ∙ e)))
    (λ t. absurd (true≢false (ap (λ b. cond (not b) true (any (λ x. not (known p cs x)) qs)) (sym t) ∙ e)))

pub store_away_lem : StoreAway
unfolding conditions accepted
store_away_lem p k n =
    record {
      read = λ s ky lent ns h.
          let m = fine-none (Read s ky) lent p ns h in
          ap (λ o. o.words) (step-fine (Read s ky) lent p m)
          ∙ ap (λ fs. show_all fs ++ drop (words_per_field * length (p.keys (nat_of ky))) lent)
          (seen_all p (own s p) ((kept_iff p).0 k) n (p.keys (nat_of ky)) (key_places p (nat_of ky) ((kept_iff p).0 k) (below_is ky key_count (not-false _ (not_met _ _ m.0)))) (not_met _ _ m.1.1.1.1.1.1.0));
      change = λ s d f kd v lent ns h u.
          let m = fine-none (Change s d f kd v) lent p ns h in
          away-known p (own s p) (place_of d f) n
          (not-false (known p (own s p) (place_of d f)) (ap (λ b. not b && not (known p (own s p) (place_of d f))) (sym u) ∙ not_met _ _ m.1.1.1.1.1.0));
    }

-- ── every field that is seen is well formed ──
pending_formed : (next : ℕ) (rows : List ℕ) (l : List Batch) → all (batch_ok next) l ≡ true → all update_ok (changes_in (pending rows l)) ≡ true
pending_formed next rows [] a = refl
pending_formed next rows (b ∷ l) a =
    by_case (has b.number rows)
    (λ e. ap (λ z. all update_ok (changes_in (cond (not z) (b ∷ pending rows l) (pending rows l)))) e ∙ pending_formed next rows l (all_tail (batch_ok next) b l a))
    (λ e. ap (λ z. all update_ok (changes_in (cond (not z) (b ∷ pending rows l) (pending rows l)))) e
    ∙ all_join update_ok b.changes (changes_in (pending rows l)) (batch_formed next b (all_head (batch_ok next) b l a)) (pending_formed next rows l (all_tail (batch_ok next) b l a)))

own_formed : (p : Plant) (s : ℕ) → Kept p → all update_ok (session s p.slots).changes ≡ true
own_formed p s k =
    by_case (has_slot s p.slots)
    (λ e. look_all (λ t. all update_ok t.changes) s p.slots (all_imp (λ x. session_ok (current p) p.clock x.session) (λ x. all update_ok x.session.changes) (λ x h. one x.session h) p.slots k.slots.ok) e)
    (λ e. rw (no_slot s p.slots e))
  where
    one : (t : Session) → session_ok (current p) p.clock t ≡ true → all update_ok t.changes ≡ true
    one t h =
        by_case t.doomed
        (λ d. ap (all update_ok) (nil_is t.changes (and_true (eqb t.begun 0) (is_empty t.changes) (and_true (eqb t.begun 0 && is_empty t.changes) (all (λ d. not (is_held (t.lease d))) documents) (rw d at h)).0).1))
        (λ d. (live_parts (current p) p.clock t d h).formed)

pub seen_fits_lem : SeenFits
seen_fits_lem p s q k r =
    let h = (kept_iff p).0 k in
    run_ok (session s p.slots).changes q (current p q) (own_formed p s h)
    (run_ok (changes_in (pending p.rows p.buffer)) q (p.store q) (pending_formed p.next p.rows p.buffer h.buffer.ok) (h.store q r))
