-- The walk through the tables' views: the sessions from one on are passed but for it, and of that one the changes from c on.
use Prim.Native.Nat.{ℕ, ◌+◌, ◌*◌, ◌-◌, ◌≤◌, ◌<◌}
use native.Mathlib.Omega.{arith}
use mathlib.Core.Path.{◌≡◌, sym, ◌∙◌, ap}
use mathlib.Core.Bool.{Bool, true, false, ◌||◌, true≢false}
use mathlib.Core.List.{List, [], ◌∷◌, ◌++◌, reverse, append_assoc, append-nil}
use lib.ListN.{length, take, drop, length-take, length-drop, take-append-drop, drop_of_length-le}
use lib.Seq.{take_all, take-add, drop-drop}
use Rattle.rules.specs.Values.{Place}
use Rattle.rules.specs.Changes.{Update, sets_it}
use Rattle.rules.specs.Tables.{Batch, changes_in}
use Rattle.rules.specs.Reading.{walk, walk_back}
use Rattle.rules.proofs.Laws.{or_one, or_zero_lem}
use Rattle.rules.proofs.Accepts.{sets_append}
use Rattle.rules.proofs.KeptTables.{flat_append}
use Rattle.rules.proofs.Walks.{ahead, ahead_none, ahead-ahead, walk_past, walk_one}

-- ── the outer loop: the session at hand and those before it are to be looked at ──
pub record Walking (buffer : List Batch) (own : List Update) (q : Place) (changes : List Update) (from looked : ℕ) : Type 0 where
  pub short : length buffer ≤ 32
  pub there : from ≤ length buffer
  pub bound : looked ≤ 8 * (32 - from)
  -- where the session at hand sets or unsets the place, so do those from it on
  pub since : sets_it changes q ≡ true → sets_it (changes_in (drop from buffer) ++ own) q ≡ true
  pub rest : walk_back buffer own q ≡ ahead looked (walk q (reverse (changes_in (take from buffer) ++ changes)))

pub walk_start : (buffer : List Batch) (own : List Update) (q : Place) {n : ℕ} → n ≡ length buffer → length buffer ≤ 32 → Walking buffer own q own n 0
walk_start buffer own q {n} e m =
    let w : length buffer ≤ n = omega arith in
    record {
      short = m;
      there = omega arith;
      bound = omega arith;
      since = λ h. sets_append (changes_in (drop n buffer)) own q ∙ ap (λ b. sets_it (changes_in (drop n buffer)) q || b) h ∙ or_one (sets_it (changes_in (drop n buffer)) q);
      rest = ahead_none (walk_back buffer own q) ∙ ap (λ l. ahead 0 (walk q (reverse (changes_in l ++ own)))) (sym (take_all n buffer w));
    }

-- ── the inner loop: none of the changes from c on sets or unsets the place; t is what the one before them does, if there is one ──
pub look_start : (changes : List Update) (q : Place) → length changes ≤ 8 → sets_it (drop 8 changes) q ≡ false
look_start changes q h = ap (λ l. sets_it l q) (drop_of_length-le changes h)

-- there is one
pub look_there : (changes : List Update) (q : Place) (i : ℕ) {t : Bool} → t ≡ sets_it (take 1 (drop i changes)) q → t ≡ true → i < length changes
look_there changes q i a f = nonempty (drop i changes) (length-drop i changes) (sym a ∙ f)
  where
    nonempty : (l : List Update) → length l ≡ length changes - i → sets_it (take 1 l) q ≡ true → i < length changes
    nonempty [] e h = absurd (true≢false (sym h))
    nonempty (x ∷ l) e h = omega arith

module _ (changes : List Update) (q : Place) {c : ℕ} (some : 0 < c) {t : Bool} (a : t ≡ sets_it (take 1 (drop (c - 1) changes)) q) (none : sets_it (drop c changes) q ≡ false) where
  last : drop (c - 1) changes ≡ take 1 (drop (c - 1) changes) ++ drop c changes
  last =
      let e : (c - 1) + 1 ≡ c = omega arith in
      sym (take-append-drop 1 (drop (c - 1) changes)) ∙ ap (λ l. take 1 (drop (c - 1) changes) ++ l) (drop-drop 1 (c - 1) changes ∙ ap (λ k. drop k changes) e)

  last-sets : {b : Bool} → t ≡ b → sets_it (drop (c - 1) changes) q ≡ b
  last-sets {b} f = ap (λ l. sets_it l q) last ∙ sets_append (take 1 (drop (c - 1) changes)) (drop c changes) q ∙ rw (← a, f, none) (or_zero_lem b)

  pub look_next : t ≡ false → sets_it (drop (c - 1) changes) q ≡ false
  look_next f = last-sets f

  module _ {buffer : List Batch} {own : List Update} {from looked : ℕ} (inv : Walking buffer own q changes from looked) (f : t ≡ true) where
    pub walk_found : walk_back buffer own q ≡ record { found = true; looked = looked + (length changes - (c - 1)) }
    walk_found =
        let older = changes_in (take from buffer) ++ take (c - 1) changes in
        let one = take 1 (drop (c - 1) changes) in
        let x = length-take 1 (drop (c - 1) changes) in
        let y = length-drop (c - 1) changes in
        let z = length-drop c changes in
        let k : looked + (length (drop c changes) + length one) ≡ looked + (length changes - (c - 1)) = omega arith in
        let s : changes_in (take from buffer) ++ changes ≡ (older ++ one) ++ drop c changes =
        ap (λ l. changes_in (take from buffer) ++ l) (sym (take-append-drop (c - 1) changes) ∙ ap (λ l. take (c - 1) changes ++ l) last)
        ∙ sym (append_assoc (changes_in (take from buffer)) (take (c - 1) changes) (one ++ drop c changes)) ∙ sym (append_assoc older one (drop c changes)) in
        inv.rest ∙ ap (λ l. ahead looked (walk q (reverse l))) s
        ∙ ap (ahead looked) (walk_past q (older ++ one) (drop c changes) none ∙ ap (ahead (length (drop c changes))) (walk_one q older one (omega arith) (sym a ∙ f)))
        ∙ ap (λ n. record { found = true; looked = n }) k

    pub found_since : sets_it (changes_in (drop from buffer) ++ own) q ≡ true
    found_since =
        inv.since
        (ap (λ l. sets_it l q) (sym (take-append-drop (c - 1) changes)) ∙ sets_append (take (c - 1) changes) (drop (c - 1) changes) q
        ∙ ap (λ b. sets_it (take (c - 1) changes) q || b) (last-sets f) ∙ or_one (sets_it (take (c - 1) changes) q))

-- ── the session at hand is passed ──
module _ {buffer : List Batch} {own : List Update} {q : Place} {changes : List Update} {from looked c : ℕ} (inv : Walking buffer own q changes from looked) (end : c ≤ 0) (none : sets_it (drop c changes) q ≡ false) where
  left : walk_back buffer own q ≡ ahead (looked + length changes) (walk q (reverse (changes_in (take from buffer))))
  left =
      let z : c ≡ 0 = omega arith in
      inv.rest ∙ ap (ahead looked) (walk_past q (changes_in (take from buffer)) changes (rw z at none))
      ∙ ahead-ahead looked (length changes) (walk q (reverse (changes_in (take from buffer))))

  -- it was the oldest
  pub walk_none : from ≡ 0 → walk_back buffer own q ≡ record { found = false; looked = looked + length changes }
  unfolding walk
  walk_none e = left ∙ rw e (ap (λ k. record { found = false; looked = k }) (omega arith))

  -- the one before it is next
  pub walk_next : length changes ≤ 8 → (b : Batch) → (from ≡ 0 → ⊥) → drop (from - 1) buffer ≡ b ∷ drop from buffer → Walking buffer own q b.changes (from - 1) (looked + length changes)
  walk_next few b some d =
      let e : from ≡ (from - 1) + 1 = omega (arith, some) in
      let t : take from buffer ≡ take (from - 1) buffer ++ (b ∷ []) = ap (λ k. take k buffer) e ∙ take-add (from - 1) 1 buffer ∙ ap (λ l. take (from - 1) buffer ++ take 1 l) d in
      let u = changes_in (drop from buffer) in
      record {
        short = inv.short;
        there = omega (arith, inv.there);
        bound = omega (arith, inv.bound, few, inv.there, inv.short, some);
        since = λ h.
            ap (λ l. sets_it (changes_in l ++ own) q) d ∙ sets_append (b.changes ++ u) own q
            ∙ ap (λ z. z || sets_it own q) (sets_append b.changes u q ∙ ap (λ z. z || sets_it u q) h);
        rest = left ∙ ap (λ l. ahead (looked + length changes) (walk q (reverse l)))
            (ap changes_in t ∙ flat_append (take (from - 1) buffer) (b ∷ []) ∙ ap (λ l. changes_in (take (from - 1) buffer) ++ l) (append-nil b.changes));
      }
