-- What map answers and leaves, one law for each way out.
use mathlib.Core.Path.{◌≡◌, refl, sym, subst, ◌∙◌, ap}
use mathlib.Core.Bool.{Bool, true, false, not, ◌&&◌, ◌||◌, cond, true≢false}
use mathlib.Core.List.{List, [], ◌∷◌}
use Prim.Native.Nat.{ℕ, zero, suc, ◌≤◌, ◌<◌}
use native.Mathlib.Omega.{arith}
use lib.ListN.{drop, take}
use lib.Dec.{eqb, ltb}
use lib.IntN.{ℤ}
use mir.Syntax.{w64}
use mir.Val.{SFits}
use borrow.Author.Tests.{lt-ltb, le-ltb, ltb-true, ltb-false, eqb-true, eqb-false, not-false}
use Rattle.std.specs.Prelude.{Option, Some, None, is_some, IfSome, unwrap_or}
use Rattle.rules.specs.Limits.{key_count, place_limit, first_session}
use Rattle.rules.specs.Lists.{any, is_empty, override}
use Rattle.rules.specs.Values as S
use Rattle.rules.specs.Values.{below, nat_of, in_range, twice}
use Rattle.rules.specs.Refusals.{out_of_range, session_begun, key_defined, bad_places, ◌⇒◌}
use Rattle.rules.specs.Calls as C
use Rattle.rules.specs.Calls.{Map, places_of, refused, fine}
use Rattle.rules.specs.Conditions.{conditions, good_pairs, good_count, is_zero}
use Rattle.rules.specs.Effects.{mapped}
use Rattle.rules.specs.Step.{accepted}
use Rattle.rules.proofs.Laws.{by_case, not_met, and_true, or_false, below_is}
use Rattle.promises.specs.Promise.{result, Performs}
use Rattle.promises.proofs.Telling.{refuses, accepts, none_held, left_accepted}
use Rattle.arguments.specs.Numbers.{index_number, index_of}
use Rattle.arguments.proofs.Numbers.{held, indexed, outside, inside, inside_is, index_is, index_lt}
use Rattle.keys.specs.View.{view_key, view_keys}
use Rattle.keys.specs.Form.{key_form, keys_form}
use Rattle.keys.specs.declared.Key.{Key}
use Rattle.keys.specs.declared.Keys.{Keys}
use Rattle.plant.specs.View.{view_plant, kept_plant, plant_form}
use Rattle.plant.specs.With.{with_keys}
use Rattle.plant.specs.declared.Plant.{Plant}
use Rattle.plant.proofs.Formed.{form_with_keys}
use Rattle.arguments.specs.places.View.{pairs, view_places, has_stray, key_of}
use Rattle.arguments.specs.declared.places.Places.{Places}
use Rattle.arguments.proofs.places.PlacesLaws.{held-pairs}

-- ── refusal 14 ──
abbrev is_bad : ℤ → List S.Place → Bool
is_bad z l = not (good_count z) || any (λ q. not (is_zero q)) (drop (nat_of z) l) || twice (take (nat_of z) l)

nothing : (b : Bool) → is_empty (cond {A = List S.Place} b [] []) ≡ true
nothing true = refl
nothing false = refl

-- one of four places or more
some_of : (n : ℕ) (a b c d : S.Place) (w : Bool) → (n ≡ 0 → ⊥) → is_empty (cond w [] (take n (a ∷ b ∷ c ∷ d ∷ []))) ≡ w
some_of n a b c d true h = refl
some_of zero a b c d false h = absurd (h refl)
some_of (suc n) a b c d false h = refl

bad_is : (z : ℤ) → SFits w64 z → (n : ℕ) → n ≡ index_number (held z) (suc place_limit) → (m : C.Pairs) → is_empty (key_of n (places_of m)) ≡ is_bad z (places_of m)
unfolding key_of
bad_is z w n e m =
    by_case (ltb n (suc place_limit))
    (λ l. let i : nat_of z ≡ n = inside_is z w (suc place_limit) n e (ltb-true n (suc place_limit) l) in
    let g : below z (suc place_limit) ≡ true = inside z w (suc place_limit) n e (ltb-true n (suc place_limit) l) in
    let h : ltb place_limit n ≡ false = le-ltb place_limit n (omega (arith, ltb-true n (suc place_limit) l)) in
    by_case (eqb n 0)
    (λ o. rw (g, i, o, eqb-true n 0 o) (nothing (ltb place_limit 0 || has_stray 0 (places_of m) || twice (take 0 (places_of m)))))
    (λ o. rw (g, i, o, h) (some_of n _ _ _ _ _ (eqb-false n 0 o))))
    (λ l. let h : suc place_limit ≤ n = ltb-false n (suc place_limit) l in
    rw (lt-ltb place_limit n (omega (arith, h)), outside z w (suc place_limit) n e h) refl)

-- n is the count where there is one
key_is : (z : ℤ) (n : ℕ) → (below z (suc place_limit) ≡ true → n ≡ nat_of z) → (t : Places) → is_bad z (view_places t) ≡ false → key_of n (view_places t) ≡ take (nat_of z) (view_places t)
unfolding key_of
key_is z n e t h =
    let a = or_false (not (good_count z) || has_stray (nat_of z) (view_places t)) (twice (take (nat_of z) (view_places t))) h in
    let b = or_false (not (good_count z)) (has_stray (nat_of z) (view_places t)) a.0 in
    let g : below z (suc place_limit) ≡ true = (and_true (below z (suc place_limit)) _ (not-false (good_count z) b.0)).0 in
    let l : nat_of z ≤ place_limit = omega (arith, below_is z (suc place_limit) g) in
    rw (e g, le-ltb place_limit (nat_of z) l, b.1, a.1) refl

-- ── t is what `of` answered ──
module _ (t : Option Places) (d e f g h i j o : ℤ) (wd : SFits w64 d) (we : SFits w64 e) (wf : SFits w64 f) (wg : SFits w64 g) (wh : SFits w64 h) (wi : SFits w64 i) (wj : SFits w64 j) (wo : SFits w64 o) where
  abbrev read : C.Pairs
  read = pairs (held d) (held e) (held f) (held g) (held h) (held i) (held j) (held o)

  within : is_some t ≡ good_pairs read → good_pairs (pairs d e f g h i j o) ≡ is_some t
  within et = sym (et ∙ ap good_pairs (held-pairs d e f g h i j o wd we wf wg wh wi wj wo))

  shown : IfSome t (λ l. view_places l ≡ places_of read) → (l : Places) → t ≡ Some l → view_places l ≡ places_of (pairs d e f g h i j o)
  shown es l n =
      subst (λ (q : Option Places). IfSome q (λ r. view_places r ≡ places_of read)) n es
      ∙ ap places_of (held-pairs d e f g h i j o wd we wf wg wh wi wj wo)

module _ (k : ℕ) (t : Option Places) (p : Plant) (x y d e f g h i j o : ℤ) (wx : SFits w64 x) (wy : SFits w64 y)
    (wd : SFits w64 d) (we : SFits w64 e) (wf : SFits w64 f) (wg : SFits w64 g) (wh : SFits w64 h) (wi : SFits w64 i) (wj : SFits w64 j) (wo : SFits w64 o)
    (ek : k ≡ index_number (held x) key_count) (lent : List ℤ) (kept : kept_plant p ≡ true) where
  abbrev m : C.Pairs
  m = pairs d e f g h i j o

  abbrev Answered : C.Answer → Type 0
  Answered a = a ≡ (result (Map x y m) lent p).answer

  pub no_key_lem : key_count ≤ k → Answered (refused out_of_range)
  unfolding conditions ◌⇒◌
  no_key_lem l = refuses (Map x y m) lent (view_plant p) _ (rw (outside x wx key_count k ek l) refl)

  module _ (l : k < key_count) (et : is_some t ≡ good_pairs (pairs (held d) (held e) (held f) (held g) (held h) (held i) (held j) (held o))) where
    in_range_lem : below x key_count ≡ true
    in_range_lem = inside x wx key_count k ek l

    pub no_place_lem : t ≡ None → Answered (refused out_of_range)
    unfolding conditions ◌⇒◌
    no_place_lem n =
        refuses (Map x y m) lent (view_plant p) _ (rw (in_range_lem, within t d e f g h i j o wd we wf wg wh wi wj wo et, ap is_some n) refl)

    module _ (has : is_some t ≡ true) where
      good : good_pairs m ≡ true
      good = within t d e f g h i j o wd we wf wg wh wi wj wo et ∙ has

      pub begun : first_session < p.next → Answered (refused session_begun)
      unfolding conditions view_plant ◌⇒◌
      begun s = refuses (Map x y m) lent (view_plant p) _ (rw (in_range_lem, good, lt-ltb first_session p.next s) refl)

      module _ (s : p.next ≤ first_session) (old : Key) (eo : view_key old ≡ view_keys p.keys k) (u : Bool) (eu : u ≡ is_empty (view_key old)) where
        old_is : is_empty (view_keys p.keys (nat_of x)) ≡ u
        old_is = ap (λ (n : ℕ). is_empty (view_keys p.keys n)) (inside_is x wx key_count k ek l) ∙ ap is_empty (sym eo) ∙ sym eu

        pub defined : u ≡ false → Answered (refused key_defined)
        unfolding conditions view_plant ◌⇒◌
        defined n = refuses (Map x y m) lent (view_plant p) _ (rw (in_range_lem, good, le-ltb first_session p.next s, old_is, n) refl)

        module _ (nu : u ≡ true) where
          pub no_count : below y (suc place_limit) ≡ false → Answered (refused bad_places)
          unfolding conditions view_plant ◌⇒◌
          no_count q = refuses (Map x y m) lent (view_plant p) _ (rw (in_range_lem, good, le-ltb first_session p.next s, old_is, nu, q) refl)

        module _ (nu : u ≡ true) (r : Places) (n : ℕ) (new : Key) (ew : view_key new ≡ key_of n (view_places r)) (v : Bool) (ev : v ≡ is_empty (view_key new))
            (en : n ≡ index_number (held y) (suc place_limit)) (es : IfSome t (λ l. view_places l ≡ places_of (pairs (held d) (held e) (held f) (held g) (held h) (held i) (held j) (held o)))) (er : t ≡ Some r) where
          judged : is_bad y (places_of m) ≡ v
          judged =
              sym (bad_is y wy n en m) ∙ ap (λ l. is_empty (key_of n l)) (sym (shown t d e f g h i j o wd we wf wg wh wi wj wo es r er))
              ∙ ap is_empty (sym ew) ∙ sym ev

          pub bad : v ≡ true → Answered (refused bad_places)
          unfolding conditions view_plant ◌⇒◌
          bad q = refuses (Map x y m) lent (view_plant p) _ (rw (in_range_lem, good, le-ltb first_session p.next s, old_is, nu, judged, q) refl)

          pub done : v ≡ false → Answered (fine [])
          unfolding conditions view_plant ◌⇒◌ accepted
          done q = accepts (Map x y m) lent (view_plant p) (rw (in_range_lem, good, le-ltb first_session p.next s, old_is, nu, judged, q) refl)

-- ── the plant left ──
module _ (t : Option Places) (p : Plant) (x y d e f g h i j o : ℤ) (wd : SFits w64 d) (we : SFits w64 e) (wf : SFits w64 f) (wg : SFits w64 g) (wh : SFits w64 h) (wi : SFits w64 i) (wj : SFits w64 j) (wo : SFits w64 o) where
  -- no key is defined, and no map is accepted
  pub left_alone : is_some t ≡ good_pairs (pairs (held d) (held e) (held f) (held g) (held h) (held i) (held j) (held o)) → t ≡ None → Performs (Map x y (pairs d e f g h i j o)) p (with_keys p p.keys)
  unfolding conditions
  left_alone et n kept lent r =
      let m = none_held (Map x y (pairs d e f g h i j o)) lent (view_plant p) _ refl r in
      let c = and_true (below x key_count) (good_pairs (pairs d e f g h i j o)) (not-false (below x key_count && good_pairs (pairs d e f g h i j o)) (not_met _ out_of_range m.0)) in
      absurd (true≢false (sym c.1 ∙ within t d e f g h i j o wd we wf wg wh wi wj wo et ∙ ap is_some n))

  module _ (wx : SFits w64 x) (wy : SFits w64 y) (es : IfSome t (λ l. view_places l ≡ places_of (pairs (held d) (held e) (held f) (held g) (held h) (held i) (held j) (held o))))
      (k : ℕ) (ek : k ≡ index_number (held x) key_count) (b : Option ℕ) (eb : b ≡ index_of (held y) (suc place_limit)) (n : ℕ) (en : n ≡ unwrap_or b 0)
      (l : Places) (el : t ≡ Some l) (new : Key) (ew : view_key new ≡ key_of n (view_places l))
      (ks : Keys) (eks : view_keys ks ≡ cond (ltb k key_count) (override (view_keys p.keys) k (view_key new)) (view_keys p.keys)) where
    pub with_key : Performs (Map x y (pairs d e f g h i j o)) p (with_keys p ks)
    unfolding conditions view_plant accepted mapped
    with_key kept lent r =
        let m = none_held (Map x y (pairs d e f g h i j o)) lent (view_plant p) _ refl r in
        let c = and_true (below x key_count) (good_pairs (pairs d e f g h i j o)) (not-false (below x key_count && good_pairs (pairs d e f g h i j o)) (not_met _ out_of_range m.0)) in
        let v : view_places l ≡ places_of (pairs d e f g h i j o) = shown t d e f g h i j o wd we wf wg wh wi wj wo es l el in
        let q : is_bad y (view_places l) ≡ false = ap (is_bad y) v ∙ not_met (is_bad y (places_of (pairs d e f g h i j o))) bad_places m.1.1.1.0 in
        let a : below y (suc place_limit) ≡ true → n ≡ nat_of y = λ w. en ∙ rw (indexed y wy (suc place_limit) b eb, w) refl in
        rw (eks, index_lt x wx key_count k ek c.0, sym (index_is x wx key_count k ek c.0), ew, key_is y n a l q, v) refl
        ∙ left_accepted (Map x y (pairs d e f g h i j o)) lent (view_plant p) m

pub with_key_form : (p : Plant) (new : Key) (ks : Keys) → (keys_form p.keys ≡ true → key_form new ≡ true → keys_form ks ≡ true) → key_form new ≡ true → plant_form p ≡ true → plant_form (with_keys p ks) ≡ true
with_key_form p new ks fk fn = form_with_keys p ks (λ x. fk x fn)
