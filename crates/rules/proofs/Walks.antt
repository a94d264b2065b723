-- The walk from the newest change back: where it stops, what it has looked at then, and what is known and seen by it.
use Prim.Native.Nat.{◌+◌, ◌-◌, ◌≤◌, suc, ℕ}
use native.Mathlib.Omega.{arith}
use mathlib.Core.Path.{◌∙◌, ◌≡◌, ap, refl, subst, sym}
use mathlib.Core.Bool.{Bool, ◌&&◌, ◌||◌, cond, false, not, true, true≢false}
use mathlib.Core.Logic.{◌⊎◌, inl, inr, ⊎_elim}
use mathlib.Core.List.{List, [], ◌++◌, ◌∷◌, append_assoc, append-nil, reverse, reverse-append}
use lib.ListN.{drop, length, length-append}
use lib.Seq.{drop_at}
use lib.IntN.{ℤ}
use borrow.Author.Tests.{not-false, not-true}
use Rattle.rules.specs.Lists.{any, all, same_case}
use Rattle.rules.specs.Refusals.{Refusal, store_away, refusal_number, ◌⇒◌}
use Rattle.rules.specs.Values.{nat_of, Place, same_place, Field, absent}
use Rattle.rules.specs.Changes.{Kind, set, unset, inc, add, push, pull, Update, kind_of, run, is_set, sets, sets_it, place_of}
use Rattle.rules.specs.Tables.{Cached, Batch, changes_in, Plant}
use Rattle.rules.specs.Reading.{shows_it, cached_field, seen_away, known, Walk, further, walk, up_to_now, walk_back}
use Rattle.rules.specs.Calls.{Call, Read, Change, refused}
use Rattle.rules.specs.Conditions.{own, conditions}
use Rattle.rules.specs.Step.{step}
use Rattle.rules.specs.Walks.{Fixes, NoneFixes, Newest, WalksBack, sessions_back, NewestFirst, Finds, found_away, KnownByWalk, SeenByWalk, WalkDecides}
use Rattle.rules.proofs.Laws.{by_case, self, both, and_true, or_false, or_one, not_met, run_append, same_place_is}
use Rattle.rules.proofs.Accepts.{run-set, sets_append}
use Rattle.rules.proofs.Steps.{fine-none, refused-first}
use Rattle.rules.proofs.Refused.{passes, AllPass, pass, change-passes, first_passes}

-- ── a set or unset, by its test ──
sets_fixes : (q : Place) (c : Update) → sets q c ≡ true → Fixes q c
unfolding sets
sets_fixes q c e =
    let h = and_true (same_place q c.at) (is_set c.kind) e in
    (sym (same_place_is q c.at h.0), kind c.kind h.1)
  where
    kind : (k : Kind) → is_set k ≡ true → (k ≡ set) ⊎ (k ≡ unset)
    kind set h = inl refl
    kind unset h = inr refl
    kind inc h = absurd (true≢false (sym h))
    kind add h = absurd (true≢false (sym h))
    kind push h = absurd (true≢false (sym h))
    kind pull h = absurd (true≢false (sym h))

fixes_sets : (q : Place) (c : Update) → Fixes q c → sets q c ≡ true
unfolding sets
fixes_sets q c h =
    both (same_place q c.at) (is_set c.kind)
    (subst (λ r. same_place q r ≡ true) (sym h.0) (both _ _ (self q.document) (self q.field)))
    (⊎_elim (λ e. ap is_set e) (λ e. ap is_set e) h.1)

none_sets : (q : Place) (cs : List Update) → NoneFixes q cs → sets_it cs q ≡ false
none_sets q [] h = refl
none_sets q (c ∷ cs) h = by_case (sets q c) (λ t. absurd (h.0 (sets_fixes q c t))) (λ t. rw t (none_sets q cs h.1))

sets_none : (q : Place) (cs : List Update) → sets_it cs q ≡ false → NoneFixes q cs
sets_none q [] e = tt
sets_none q (c ∷ cs) e =
    by_case (sets q c) (λ t. absurd (true≢false (rw t at e)))
    (λ t. (λ h. true≢false (sym (fixes_sets q c h) ∙ t), sets_none q cs (rw t at e)))

-- ── one change looked at, the newest ──
abbrev pub ahead : ℕ → Walk → Walk
ahead n w = record { found = w.found; looked = n + w.looked }

pub walk_hit : (q : Place) (older : List Update) (c : Update) → sets q c ≡ true → walk q (reverse (older ++ (c ∷ []))) ≡ record { found = true; looked = 1 }
unfolding walk
walk_hit q older c e = ap (walk q) (reverse-append older (c ∷ [])) ∙ rw e refl

pub walk_miss : (q : Place) (older : List Update) (c : Update) → sets q c ≡ false → walk q (reverse (older ++ (c ∷ []))) ≡ further (walk q (reverse older))
unfolding walk
walk_miss q older c e = ap (walk q) (reverse-append older (c ∷ [])) ∙ rw e refl

-- ── the changes passed ──
pub ahead_none : (w : Walk) → w ≡ ahead 0 w
ahead_none w = ap (λ n. record { found = w.found; looked = n }) (omega arith)

pub ahead-ahead : (m n : ℕ) (w : Walk) → ahead m (ahead n w) ≡ ahead (m + n) w
ahead-ahead m n w = ap (λ k. record { found = w.found; looked = k }) (omega arith)

ahead_more : (n : ℕ) (w : Walk) → ahead n (further w) ≡ ahead (n + 1) w
ahead_more n w = ap (λ k. record { found = w.found; looked = k }) (omega arith)

pub walk_past : (q : Place) (older newer : List Update) → sets_it newer q ≡ false → walk q (reverse (older ++ newer)) ≡ ahead (length newer) (walk q (reverse older))
walk_past q older [] e = ap (λ l. walk q (reverse l)) (append-nil older) ∙ ahead_none (walk q (reverse older))
walk_past q older (c ∷ newer) e =
    by_case (sets q c) (λ t. absurd (true≢false (rw t at e)))
    (λ t. ap (λ l. walk q (reverse l)) (sym (append_assoc older (c ∷ []) newer)) ∙ walk_past q (older ++ (c ∷ [])) newer (rw t at e)
    ∙ ap (ahead (length newer)) (walk_miss q older c t)
    ∙ ahead_more (length newer) (walk q (reverse older)) ∙ ap (λ n. ahead n (walk q (reverse older))) (omega arith))

-- one change at most, which sets or unsets it
pub walk_one : (q : Place) (older newer : List Update) → length newer ≤ 1 → sets_it newer q ≡ true → walk q (reverse (older ++ newer)) ≡ record { found = true; looked = length newer }
walk_one q older [] l e = absurd (true≢false (sym e))
walk_one q older (c ∷ []) l e = by_case (sets q c) (λ t. walk_hit q older c t) (λ t. absurd (true≢false (sym (rw t at e))))
walk_one q older (c ∷ d ∷ newer) l e = absurd (omega arith)

walk_stops : (q : Place) (older newer : List Update) (c : Update) → sets q c ≡ true → sets_it newer q ≡ false
    → walk q (reverse (older ++ (c ∷ newer))) ≡ record { found = true; looked = suc (length newer) }
walk_stops q older newer c e n =
    ap (λ l. walk q (reverse l)) (sym (append_assoc older (c ∷ []) newer)) ∙ walk_past q (older ++ (c ∷ [])) newer n
    ∙ ap (ahead (length newer)) (walk_hit q older c e)
    ∙ ap (λ k. record { found = true; looked = k }) (omega arith)

walk-passes : (q : Place) (cs : List Update) → sets_it cs q ≡ false → walk q (reverse cs) ≡ record { found = false; looked = length cs }
unfolding walk
walk-passes q cs e = walk_past q [] cs e ∙ ap (λ k. record { found = false; looked = k }) (omega arith)

-- ── the newest set or unset, where there is one ──
newest : (q : Place) (cs : List Update) → sets_it cs q ≡ true → Newest q cs
newest q [] e = absurd (true≢false (sym e))
newest q (c ∷ cs) e = by_case (sets_it cs q) (λ t. later (newest q cs t)) here
  where
    later : Newest q cs → Newest q (c ∷ cs)
    later n = record { older = c ∷ n.older; change = n.change; newer = n.newer; split = ap (λ l. c ∷ l) n.split; fixes = n.fixes; none_newer = n.none_newer }

    here : sets_it cs q ≡ false → Newest q (c ∷ cs)
    here t =
        let u : sets q c ≡ true = by_case (sets q c) (λ u. u) (λ u. absurd (true≢false (sym (rw u at e) ∙ t))) in
        record { older = []; change = c; newer = cs; split = refl; fixes = sets_fixes q c u; none_newer = sets_none q cs t }

stopped : (q : Place) (cs : List Update) (n : Newest q cs) → walk q (reverse cs) ≡ record { found = true; looked = suc (length n.newer) }
stopped q cs n =
    ap (λ l. walk q (reverse l)) n.split
    ∙ walk_stops q n.older n.newer n.change (fixes_sets q n.change n.fixes) (none_sets q n.newer n.none_newer)

pub walks_back_lem : WalksBack
walks_back_lem buffer own q =
    record {
      stops = stopped q (up_to_now buffer own);
      passes = λ h. walk-passes q (up_to_now buffer own) (none_sets q (up_to_now buffer own) h);
      ends = by_case (sets_it (up_to_now buffer own) q) (λ t. inl (newest q (up_to_now buffer own) t)) (λ t. inr (sets_none q (up_to_now buffer own) t));
    }

-- ── its order ──
sessions_back_lem : (buffer : List Batch) → reverse (changes_in buffer) ≡ sessions_back buffer
sessions_back_lem [] = refl
sessions_back_lem (b ∷ l) = reverse-append b.changes (changes_in l) ∙ ap (λ z. z ++ reverse b.changes) (sessions_back_lem l)

pub newest_first_lem : NewestFirst
newest_first_lem buffer own = reverse-append (changes_in buffer) own ∙ ap (λ z. reverse own ++ z) (sessions_back_lem buffer)

-- ── the same answer ──
found_is : (q : Place) (cs : List Update) → (walk q (reverse cs)).found ≡ sets_it cs q
found_is q cs =
    by_case (sets_it cs q) (λ t. ap (λ (w : Walk). w.found) (stopped q cs (newest q cs t)) ∙ sym t) (λ t. ap (λ (w : Walk). w.found) (walk-passes q cs t) ∙ sym t)

pub finds : Finds
finds buffer own q = found_is q (up_to_now buffer own) ∙ sets_append (changes_in buffer) own q

pub known_by_walk_lem : KnownByWalk
known_by_walk_lem keys cache buffer own q =
    or_assoc (any (shows_it keys q) cache) (sets_it (changes_in buffer) q) (sets_it own q) ∙ ap (λ b. any (shows_it keys q) cache || b) (sym (finds buffer own q))
  where
    or_assoc : (a b c : Bool) → a || b || c ≡ a || (b || c)
    or_assoc true b c = refl
    or_assoc false b c = refl

-- where the changes from some one on set or unset the place, the field is worked out from there, whatever it was before
module _ (keys : ℕ → List Place) (cache : List Cached) (buffer : List Batch) (own : List Update) (q : Place) where
  from_absent : sets_it (up_to_now buffer own) q ≡ true → seen_away keys cache buffer own q ≡ run (up_to_now buffer own) q absent
  unfolding seen_away
  from_absent e =
      by_case (sets_it own q)
      (λ t. rw t (run-set own q absent (run (changes_in buffer) q absent) t))
      (λ t. let u : sets_it (changes_in buffer) q ≡ true = by_case (sets_it (changes_in buffer) q) (λ u. u) (λ u. absurd (true≢false (sym e ∙ sets_append (changes_in buffer) own q ∙ rw (u, t) refl))) in
      rw (t, u) refl)
      ∙ sym (run_append (changes_in buffer) own q absent)

  pub seen_since : (older newer : List Update) → up_to_now buffer own ≡ older ++ newer → sets_it newer q ≡ true → (f : Field) → seen_away keys cache buffer own q ≡ run newer q f
  seen_since older newer s e f =
      from_absent (ap (λ l. sets_it l q) s ∙ sets_append older newer q ∙ ap (λ b. sets_it older q || b) e ∙ or_one (sets_it older q))
      ∙ ap (λ l. run l q absent) s ∙ run_append older newer q absent ∙ run-set newer q (run older q absent) f e

  pub seen_cached_lem : (walk_back buffer own q).found ≡ false → seen_away keys cache buffer own q ≡ run own q (cached_field keys q cache)
  unfolding seen_away
  seen_cached_lem e =
      let h = or_false (sets_it (changes_in buffer) q) (sets_it own q) (sym (finds buffer own q) ∙ e) in
      rw (h.0, h.1) refl

pub seen_by_walk_lem : SeenByWalk
seen_by_walk_lem keys cache buffer own q = record { since = λ e f. since (newest q cs (sym (found_is q cs) ∙ e)) f; cached = seen_cached_lem keys cache buffer own q }
  where
    cs : List Update
    cs = up_to_now buffer own

    since : (n : Newest q cs) (f : Field) → seen_away keys cache buffer own q ≡ run (drop (length cs - (walk q (reverse cs)).looked) cs) q f
    since n f =
        let w = ap (λ (w : Walk). w.looked) (stopped q cs n) in
        let l = ap length n.split ∙ length-append n.older (n.change ∷ n.newer) in
        let k : length n.older ≡ length cs - (walk q (reverse cs)).looked = omega arith in
        let d : drop (length cs - (walk q (reverse cs)).looked) cs ≡ n.change ∷ n.newer = ap (drop (length cs - (walk q (reverse cs)).looked)) n.split ∙ drop_at n.older (n.change ∷ n.newer) (length cs - (walk q (reverse cs)).looked) k in
        seen_since keys cache buffer own q n.older (n.change ∷ n.newer) n.split (ap (λ b. cond b true (sets_it n.newer q)) (fixes_sets q n.change n.fixes)) f
        ∙ ap (λ l. run l q f) (sym d)

-- ── of the calls that ask ──
away_is : (p : Plant) (cs : List Update) (q : Place) → p.near ≡ false → known p cs q ≡ found_away p.keys p.cache q (walk_back p.buffer cs q)
away_is p cs q n = rw n (known_by_walk_lem p.keys p.cache p.buffer cs q)

-- 20 comes of one condition alone: where it does not hold, no other gives it
abbrev not_away : Refusal → Bool
not_away r = not (same_case refusal_number r store_away)

asked : (c : Call) (lent : List ℤ) (p : Plant) → (step c lent p).answer ≡ refused store_away → (b : Bool) → (b ≡ false → AllPass not_away (conditions c lent p)) → b ≡ true
asked c lent p h true a = refl
asked c lent p h false a = absurd (true≢false (sym (first_passes not_away (conditions c lent p) store_away (a refl) (refused-first c lent p store_away h))))

not-asked : (b : Bool) → b ≡ false → passes not_away (b ⇒ store_away) ≡ true
unfolding ◌⇒◌
not-asked b e = rw e

all_found : (p : Plant) (cs : List Update) → p.near ≡ false → (qs : List Place) → any (λ q. not (known p cs q)) qs ≡ false → all (λ q. found_away p.keys p.cache q (walk_back p.buffer cs q)) qs ≡ true
all_found p cs n [] e = refl
all_found p cs n (q ∷ qs) e =
    by_case (known p cs q)
    (λ t. both _ _ (sym (away_is p cs q n) ∙ t) (all_found p cs n qs (rw t at e)))
    (λ t. absurd (true≢false (rw t at e)))

some_not_found : (p : Plant) (cs : List Update) → p.near ≡ false → (qs : List Place) → any (λ q. not (known p cs q)) qs ≡ any (λ q. not (found_away p.keys p.cache q (walk_back p.buffer cs q))) qs
some_not_found p cs n [] = refl
some_not_found p cs n (q ∷ qs) = rw (away_is p cs q n, some_not_found p cs n qs) refl

pub walk_decides_lem : WalkDecides
unfolding conditions
walk_decides_lem p n =
    record {
      read_unknown = λ s k lent h.
          sym (some_not_found p (own s p) n (p.keys (nat_of k)))
          ∙ asked (Read s k) lent p h (any (λ q. not (known p (own s p) q)) (p.keys (nat_of k)))
          (λ e. (pass not_away _ _ refl, (pass not_away _ _ refl, (pass not_away _ _ refl, (pass not_away _ _ refl, (pass not_away _ _ refl, (pass not_away _ _ refl, (not-asked _ e, tt))))))));
      read_known = λ s k lent ns h.
          let m = fine-none (Read s k) lent p ns h in
          all_found p (own s p) n (p.keys (nat_of k)) (not_met _ _ m.1.1.1.1.1.1.0);
      change_unknown = λ s d f k v lent h.
          let b = asked (Change s d f k v) lent p h (not (is_set (kind_of (nat_of k))) && not (known p (own s p) (place_of d f)))
          (λ e. (pass not_away _ _ refl, (pass not_away _ _ refl, (pass not_away _ _ refl, (pass not_away _ _ refl, (pass not_away _ _ refl, (not-asked _ e, (change-passes not_away refl refl refl _ _, tt)))))))) in
          let t = and_true _ _ b in
          (not-true _ t.0, sym (away_is p (own s p) (place_of d f) n) ∙ not-true _ t.1);
      change_known = λ s d f k v lent ns h u.
          let m = fine-none (Change s d f k v) lent p ns h in
          sym (away_is p (own s p) (place_of d f) n)
          ∙ not-false (known p (own s p) (place_of d f)) (ap (λ b. not b && not (known p (own s p) (place_of d f))) (sym u) ∙ not_met _ _ m.1.1.1.1.1.0);
    }
