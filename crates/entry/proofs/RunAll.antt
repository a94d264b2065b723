-- Calls run one after the other: what the loop keeps, and one call more at the end.
use Prim.Native.Nat.{ℕ, zero, suc, ◌+◌, ◌-◌, ◌≤◌, ◌<◌, min}
use native.Mathlib.Omega.{arith}
use native.Mathlib.Numerals.{add-one}
use mathlib.Core.Path.{◌≡◌, refl, sym, ◌∙◌, ap, ap₂, subst}
use mathlib.Core.Bool.{true, false}
use mathlib.Core.List.{List, [], ◌∷◌, ◌++◌}
use lib.IntN.{ℤ}
use lib.ListN.{length, take, drop, set, get_or, length-set, length-drop}
use lib.Seq.{take-suc, take-suc-set, take_all, take-take, take-add, take_at, drop_at, drop-drop, drop-append_seam, length-take-le}
use borrow.Rule.Slice.PartMut.{put_mid, post_of, take_put, drop_put, same_len_mid, mid_len}
use Rattle.lists.proofs.Views.{counted-length, counted-at}
use Rattle.lists.proofs.Parts.{front_is, rest_is, next_is, part_is}
use Rattle.plant.specs.View.{plant_form, kept_plant}
use Rattle.plant.specs.declared.Plant.{Plant}
use Rattle.answers.specs.View.{view_answer, is_refused}
use Rattle.answers.specs.Own.{is_answer_of}
use Rattle.calls.specs.View.{view_call, view_calls, list_limit}
use Rattle.calls.specs.declared.Calls.{Calls}
use Rattle.calls.specs.declared.Call.{Call}
use Rattle.entry.specs.Refused.{RefusalLeaves}
use Rattle.entry.specs.Ran.{Ran}
use Rattle.entry.specs.RanAll.{is_read, Entered, RanAll}
use Rattle.entry.proofs.Filled.{Seen, filled, refused_unread}
use Rattle.entry.specs.declared.Told.{Told}

-- ── parts of a run of words ──
-- lists with a front in common have its parts in common
seam : (n k : ℕ) (l : List ℤ) → drop (length (take n l)) (take (n + k) l) ≡ take k (drop n l)
seam n k l = ap (drop (length (take n l))) (take-add n k l) ∙ drop-append_seam (take n l) (take k (drop n l))

front_first : (n k : ℕ) (l m : List ℤ) → take (n + k) l ≡ take (n + k) m → take n l ≡ take n m
front_first n k l m h = sym (take-take n (n + k) l (omega arith)) ∙ ap (take n) h ∙ take-take n (n + k) m (omega arith)

front_rest : (n k : ℕ) (l m : List ℤ) → take (n + k) l ≡ take (n + k) m → take k (drop n l) ≡ take k (drop n m)
front_rest n k l m h = sym (seam n k l) ∙ ap₂ drop (ap length (front_first n k l m h)) h ∙ seam n k m

-- ── a list of calls ──
-- the words lent to so many calls
abbrev shares : ℕ → ℕ → ℕ
shares n zero = 0
shares n (suc i) = n + shares n i

module _ (n : ℕ) where
  -- the words past theirs are as they were
  ran_rest : (p : Plant) (cs : List Call) (ts : List Told) (lent words : List ℤ) (q : Plant) → RanAll n p cs ts lent words q → drop (shares n (length cs)) words ≡ drop (shares n (length cs)) lent
  ran_rest p [] [] lent words q r = r.1
  ran_rest p [] (t ∷ ts) lent words q r = absurd r
  ran_rest p (c ∷ cs) [] lent words q r = absurd r
  ran_rest p (c ∷ cs) (t ∷ ts) lent words q r = sym (drop-drop (shares n (length cs)) n words) ∙ ran_rest r.0 cs ts (drop n lent) (drop n words) q r.1.1 ∙ drop-drop (shares n (length cs)) n lent

  -- one call more at the end, which writes no words but its own
  ran_snoc : (p : Plant) (cs : List Call) (ts : List Told) (lent words : List ℤ) (m : Plant) → RanAll n p cs ts lent words m → (now : List ℤ) → take (shares n (length cs)) now ≡ take (shares n (length cs)) words
      → drop n (drop (shares n (length cs)) now) ≡ drop n (drop (shares n (length cs)) lent) → (c : Call) (t : Told) (q : Plant) → Entered c (take n (drop (shares n (length cs)) lent)) m t (take n (drop (shares n (length cs)) now)) q
      → RanAll n p (cs ++ (c ∷ [])) (ts ++ (t ∷ [])) lent now q
  ran_snoc p [] [] lent words m r now f b c t q h = (q, (subst (λ x. Entered c (take n lent) x t (take n now) q) r.0 h, (refl, b)))
  ran_snoc p [] (t' ∷ ts) lent words m r now f b c t q h = absurd r
  ran_snoc p (c' ∷ cs) [] lent words m r now f b c t q h = absurd r
  ran_snoc p (c' ∷ cs) (t' ∷ ts) lent words m r now f b c t q h =
      let k = shares n (length cs) in
      let ew = drop-drop k n now in
      let el = drop-drop k n lent in
      (r.0, (rw (front_first n k now words f) r.1.0, ran_snoc r.0 cs ts (drop n lent) (drop n words) m r.1.1 (drop n now) (front_rest n k now words f) (rw (ew, el) b) c t q (rw (ew, el) h)))

  -- a list of one call
  pub ran_one : (p : Plant) (cs : List Call) (c : Call) → cs ≡ c ∷ [] → (count : ℕ) (told : List Told) (lent words : List ℤ) (q : Plant) → RanAll n p cs (take count told) lent words q → (d : Told) → Entered c (take n lent) p (get_or told 0 d) (take n words) q
  ran_one p cs c h count told lent words q r d = go count told (rw h at r)
    where
      go : (count : ℕ) (told : List Told) → RanAll n p (c ∷ []) (take count told) lent words q → Entered c (take n lent) p (get_or told 0 d) (take n words) q
      go zero told r = absurd r
      go (suc k) [] r = absurd r
      go (suc k) (t ∷ ts) r = last k ts r
        where
          last : (k : ℕ) (ts : List Told) → RanAll n p (c ∷ []) (t ∷ take k ts) lent words q → Entered c (take n lent) p t (take n words) q
          last zero ts r = rw r.1.1.0 r.1.0
          last (suc k) [] r = rw r.1.1.0 r.1.0
          last (suc k) (x ∷ ts) r = absurd r.1.1

  -- a plant that keeps the rules, or is in form, is left so
  pub ran_kept : (p : Plant) (cs : List Call) (ts : List Told) (lent words : List ℤ) (q : Plant) → RanAll n p cs ts lent words q → kept_plant p ≡ true → kept_plant q ≡ true
  ran_kept p [] [] lent words q r k = rw r.0 k
  ran_kept p [] (t ∷ ts) lent words q r k = absurd r
  ran_kept p (c ∷ cs) [] lent words q r k = absurd r
  ran_kept p (c ∷ cs) (t ∷ ts) lent words q r k = ran_kept r.0 cs ts (drop n lent) (drop n words) q r.1.1 (r.1.0.runs k).keeps

  pub ran_form : (p : Plant) (cs : List Call) (ts : List Told) (lent words : List ℤ) (q : Plant) → RanAll n p cs ts lent words q → plant_form p ≡ true → plant_form q ≡ true
  ran_form p [] [] lent words q r k = rw r.0 k
  ran_form p [] (t ∷ ts) lent words q r k = absurd r
  ran_form p (c ∷ cs) [] lent words q r k = absurd r
  ran_form p (c ∷ cs) (t ∷ ts) lent words q r k = ran_form r.0 cs ts (drop n lent) (drop n words) q r.1.1 (r.1.0.form k)

-- what is promised of one call, with all words lent to it
pub promised : (c : Call) (lent : List ℤ) (p : Plant) (t : Told) (words : List ℤ) (q : Plant) → length words ≡ length lent → Entered c (take (length lent) lent) p t (take (length lent) words) q
    → (kept_plant p ≡ true → Ran c lent p t.answer words q) × ((is_answer_of (view_call c) t.answer ≡ true) × ((plant_form p ≡ true → plant_form q ≡ true) × (RefusalLeaves p t.answer q × (is_refused (view_answer t.answer) ≡ true → words ≡ lent))))
promised c lent p t words q l x =
    let e : take (length lent) lent ≡ lent = take_all (length lent) lent (omega arith) in
    let f : take (length lent) words ≡ words = take_all (length lent) words (omega (arith, l)) in
    let y : Entered c lent p t words q = rw (e, f) at x in
    (y.runs, (y.own, (y.form, (y.refused, λ h. (y.leaves (refused_unread t.answer h)).0))))

-- ── what the loop keeps ──
-- the words from one position to another are lent to a call that is answered so, and the others are as they were
pub record Lent (at next : ℕ) (o : Seen) (words now : List ℤ) : Type 0 where
  pub before : take at now ≡ take at words
  pub own : take (next - at) (drop at now) ≡ filled o (take (next - at) (drop at words))
  pub past : drop next now ≡ drop next words
  pub long : length now ≡ length words

-- by a call that writes none
pub lent_same : (at next : ℕ) (o : Seen) (words now : List ℤ) → now ≡ words → is_read o.answer ≡ false → Lent at next o words now
lent_same at next o words now e f = rw e (record { before = refl; own = rw f refl; past = refl; long = refl })

pub lent_filled : (at next : ℕ) (o : Seen) (words now part : List ℤ) → at ≤ next → next ≤ length words → now ≡ put_mid at (next - at) words part → length part ≡ next - at → part ≡ filled o (take (next - at) (drop at words)) → Lent at next o words now
lent_filled at next o words now part h g e l f =
    rw e
    (record {
      before = take_put at (next - at) words part (omega (arith, h, g));
      own = ap (take (next - at)) (drop_at (take at words) (part ++ post_of at (next - at) words) at (length-take-le at words (omega (arith, h, g)))) ∙ take_at part (post_of at (next - at) words) (next - at) l ∙ f;
      past = drop_put at next words part h g l;
      long = same_len_mid at (next - at) words part (l ∙ sym (mid_len at next words g));
    })

-- the first i calls are run
pub record Running (n : ℕ) (p : Plant) (cs : List Call) (lent : List ℤ) (told : List Told) (words : List ℤ) (i at : ℕ) (q : Plant) : Type 0 where
  pub few : length cs ≤ list_limit
  pub answers : length told ≡ list_limit
  pub upto : i ≤ length cs
  pub long : length words ≡ length lent
  pub here : at ≡ min (shares n i) (length lent)
  pub ran : RanAll n p (take i cs) (take i told) lent words q

module _ (n : ℕ) (p : Plant) (cs : List Call) (lent : List ℤ) where
  pub running_start : length cs ≤ list_limit → (told : List Told) → length told ≡ list_limit → Running n p cs lent told lent 0 0 p
  running_start h told l = record { few = h; answers = l; upto = omega arith; long = refl; here = omega arith; ran = (refl, refl) }

  module _ (told : List Told) (words : List ℤ) (i at : ℕ) (m : Plant) (r : Running n p cs lent told words i at m) where
    -- its words end where there are no more
    pub inside : at ≤ length words
    inside = omega (arith, r.here, r.long)

    -- it is within the arrays
    pub within : i < length cs → i < list_limit
    within h = omega (arith, h, r.few)

    -- where it is in a run of as many words
    placed : (l : List ℤ) → length l ≡ length lent → at ≡ min (shares n i) (length l)
    placed l e = r.here ∙ ap (min (shares n i)) (sym e)

    pub running_next : i < length cs → (c d : Call) → c ≡ get_or cs i d → (t : Told) (next : ℕ) → next ≡ at + min n (length words - at) → (o : Seen) (now : List ℤ) → Lent at next o words now → (q : Plant)
        → ((part : List ℤ) → length part ≡ next - at → Entered c part m t (filled o part) q) → Running n p cs lent (set told i t) now (i + 1) next q
    running_next h c d ed t next en o now b q x =
        let k = shares n i in
        let ek : shares n (length (take i cs)) ≡ k = ap (shares n) (length-take-le i cs r.upto) in
        let e : length now ≡ length lent = b.long ∙ r.long in
        let rest : drop k words ≡ drop k lent = rw ek at (ran_rest n p (take i cs) (take i told) lent words m r.ran) in
        let part = take (next - at) (drop at words) in
        let lp : length part ≡ next - at = length-take-le (next - at) (drop at words) (rw length-drop (omega (arith, en, inside))) in
        let here = placed words r.long in
        let now-here = placed now e in
        let ew : next ≡ at + min n (length now - at) = en ∙ ap (λ m. at + min n (m - at)) (sym b.long) in
        let front : take k now ≡ take k words = sym (front_is now k at now-here) ∙ b.before ∙ front_is words k at here in
        let past = rest_is words (k + n) next (next_is words k at here n next en) in
        let back : drop n (drop k now) ≡ drop n (drop k lent) = drop-drop n k now ∙ sym (rest_is now (k + n) next (next_is now k at now-here n next ew)) ∙ b.past ∙ past ∙ sym (drop-drop n k words) ∙ ap (drop n) rest in
        let own : Entered c (take n (drop k lent)) m t (take n (drop k now)) q = rw (sym b.own ∙ part_is now k at now-here n next ew, part_is words k at here n next en ∙ ap (take n) rest) at (x part lp) in
        let l : i < length told = omega (arith, h, r.few, r.answers) in
        let ec : take (i + 1) cs ≡ take i cs ++ (c ∷ []) = rw (add-one i) (take-suc cs i d h ∙ ap (λ (z : Call). take i cs ++ (z ∷ [])) (sym ed)) in
        let eo : take (i + 1) (set told i t) ≡ take i told ++ (t ∷ []) = rw (add-one i) (take-suc-set told i t l) in
        let es : k + n ≡ shares n (i + 1) = rw (add-one i) (omega arith) in
        record {
          few = r.few;
          answers = rw length-set r.answers;
          upto = omega (arith, h);
          long = e;
          here = next_is words k at here n next en ∙ ap₂ min es r.long;
          ran = rw (ec, eo) (ran_snoc n p (take i cs) (take i told) lent words m r.ran now (rw ek front) (rw ek back) c t q (rw ek own));
        }

    pub running_end : length cs ≤ i → RanAll n p cs (take i told) lent words m
    running_end h = subst (λ (l : List Call). RanAll n p l (take i told) lent words m) (take_all i cs h) r.ran

-- ── the calls of a list ──
module _ (t : Calls) (long : length t.items ≡ list_limit) where
  pub counts : length (view_calls t) ≡ min t.count list_limit
  unfolding view_calls
  counts = counted-length (λ (x : Call). x) t.count t.items list_limit long

  pub few_calls : length (view_calls t) ≤ list_limit
  few_calls = rw counts (omega arith)

  pub call_at : (d : Call) (i : ℕ) → i < length (view_calls t) → get_or t.items i d ≡ get_or (view_calls t) i d
  unfolding view_calls
  call_at d i h = counted-at (λ (x : Call). x) t.count t.items d d i (omega (arith, h, counts)) (omega (arith, h, counts, long))
