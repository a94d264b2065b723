-- The cached keys through their view: one law for each way out of a method.
use Prim.Native.Nat.{ℕ, zero, suc, ◌+◌, ◌-◌, ◌<◌, ◌≤◌, min}
use native.Mathlib.Omega.{arith}
use mathlib.Core.Path.{◌≡◌, refl, sym, ◌∙◌, ap}
use mathlib.Core.Bool.{Bool, true, false, not}
use mathlib.Core.List.{[], List, ◌∷◌, ◌++◌, map}
use lib.ListN.{length, get_or, set, take, drop, replicate, length-append, length-drop, length-take}
use lib.Seq.{length-take-le, drop-cons, set_at, take_at, drop_at}
use lib.Dec.{eqb}
use Rattle.std.specs.List.{copy_within}
use Rattle.std.proofs.Common.{zero-add}
use Rattle.rules.specs.Lists.{any, all, keep}
use Rattle.rules.specs.Values as S
use Rattle.rules.specs.Changes as C
use Rattle.rules.specs.Reading as D
use Rattle.rules.specs.Effects.{in_documents, stays}
use Rattle.rules.proofs.Laws.{both}
use Rattle.rules.proofs.Tests.{all_drop, keep_all}
use Rattle.docset.specs.Sets.{docs}
use Rattle.docset.proofs.SetLaws.{docs_none}
use Rattle.keys.specs.View.{view_place, view_key, view_keys}
use Rattle.keys.specs.declared.Place.{Place}
use Rattle.keys.specs.declared.Key.{Key}
use Rattle.keys.specs.declared.Keys.{Keys}
use Rattle.lists.specs.Table.{counted}
use Rattle.lists.proofs.Views.{counted-length, take-map, Remaking, remake_start}
use Rattle.lists.proofs.Indexed.{any_false}
use Rattle.lists.proofs.Forms.{form_parts, parts_form, form_empty, used_at}
use Rattle.lists.proofs.Remake.{form_set}
use Rattle.cache.specs.cached.View.{no_cached, view_cached, after_changes}
use Rattle.cache.specs.cached.Form.{cached_form, is_blank_cached}
use Rattle.cache.specs.declared.cached.Cached.{Cached}
use Rattle.cache.proofs.cached.CachedLaws.{blank_cached}
use Rattle.cache.specs.View.{view_cache}
use Rattle.cache.specs.Form.{cache_form}
use Rattle.cache.specs.declared.Cache.{Cache}
use Rattle.lists.proofs.Ends.{remake_here, remake_done}

-- ── the table ──
pub cache_empty : (c : Cached) → view_cached c ≡ no_cached → cached_form c ≡ true → cache_form (record { count = 0; entries = replicate 16 c }) ≡ true
unfolding cache_form
cache_empty c e h = form_empty 16 cached_form is_blank_cached c (blank_cached c e h)

pub entry_form : (t : Cache) (i : ℕ) (d : Cached) → i < t.count → cache_form t ≡ true → cached_form (get_or t.entries i d) ≡ true
unfolding cache_form
entry_form t i d h e = used_at 16 cached_form is_blank_cached t.count t.entries i d h e

-- how many entries are in use
length_is : (t : Cache) (n : ℕ) → length t.entries ≡ 16 → n ≡ length (view_cache t) → n ≡ min t.count 16
unfolding view_cache
length_is t n l e = e ∙ counted-length view_cached t.count t.entries 16 l

-- ── all but the first ──
map-rest : {A B : Type 0} (f : A → B) (xs : List A) → map f (drop 1 xs) ≡ drop 1 (map f xs)
map-rest f [] = refl
map-rest f (x ∷ xs) = refl

take_rest : {A : Type 0} (j : ℕ) (xs : List A) → take j (drop 1 xs) ≡ drop 1 (take (suc j) xs)
take_rest zero [] = refl
take_rest (suc j) [] = refl
take_rest j (x ∷ xs) = refl

-- the first n of a list moved down by one, with d in the place of the last
moved_down : {A : Type 0} (xs : List A) (n m : ℕ) (d : A) → n ≡ suc m → n ≤ length xs → set (copy_within xs 1 n 0) m d ≡ drop 1 (take n xs) ++ (d ∷ drop n xs)
moved_down xs n m d e h =
    let k : n - 1 ≡ m = omega arith in
    let l : m ≤ length (drop 1 xs) = rw (length-drop 1 xs) (omega arith) in
    rw (k, e, zero-add m, drop-cons xs m d (omega arith), ← take_rest m xs)
    (set_at (take m (drop 1 xs)) (get_or xs m d) (drop (suc m) xs) d m (length-take-le m (drop 1 xs) l))

-- a count past the table's end shows no more than the number of entries shown
take_own : {A : Type 0} (n : ℕ) (xs : List A) → take (length (take n xs)) xs ≡ take n xs
take_own zero xs = refl
take_own (suc n) [] = refl
take_own (suc n) (x ∷ xs) = ap (λ l. x ∷ l) (take_own n xs)

module _ (t : Cache) (n : ℕ) (l : length t.entries ≡ 16) (a : n ≡ length (view_cache t)) where
  pub few : n ≤ length t.entries
  unfolding view_cache
  few = omega (arith, counted-length view_cached t.count t.entries 16 l)

  module _ (d : Cached) (vs : List Cached) (e : vs ≡ copy_within t.entries 1 n 0) (h : 0 < n) where
    moved : set vs (n - 1) d ≡ drop 1 (take n t.entries) ++ (d ∷ drop n t.entries)
    moved = rw e (moved_down t.entries n (n - 1) d (omega arith) few)

    left : length (drop 1 (take n t.entries)) ≡ n - 1
    left = let f = few in simp (length-drop, length-take) (omega arith)

    shown : counted view_cached n t.entries ≡ view_cache t
    unfolding view_cache counted
    shown = rw a (take_own t.count (map view_cached t.entries))

    pub first_gone : view_cache (record { count = n - 1; entries = set vs (n - 1) d }) ≡ drop 1 (view_cache t)
    unfolding view_cache counted
    first_gone =
        let e : take (n - 1) (set vs (n - 1) d) ≡ drop 1 (take n t.entries) = rw moved (take_at (drop 1 (take n t.entries)) (d ∷ drop n t.entries) (n - 1) left) in
        take-map view_cached (n - 1) (set vs (n - 1) d)
        ∙ ap (map view_cached) e
        ∙ map-rest view_cached (take n t.entries)
        ∙ ap (drop 1) (sym (take-map view_cached n t.entries) ∙ shown)

    pub first_form : view_cached d ≡ no_cached → cached_form d ≡ true → cache_form t ≡ true → cache_form (record { count = n - 1; entries = set vs (n - 1) d }) ≡ true
    unfolding cache_form view_cache
    first_form b b' e =
        let f = form_parts 16 cached_form is_blank_cached t.count t.entries e in
        let q : n ≡ t.count = omega (arith, f.within, counted-length view_cached t.count t.entries 16 l) in
        let w = f.within in
        rw moved
        (parts_form 16 cached_form is_blank_cached (n - 1) (drop 1 (take n t.entries) ++ (d ∷ drop n t.entries))
        (record {
          long = simp (length-append, length-drop, length-take) (omega arith);
          within = omega arith;
          in_use = rw (take_at (drop 1 (take n t.entries)) (d ∷ drop n t.entries) (n - 1) left) (all_drop cached_form 1 (take n t.entries) (rw q f.in_use));
          rest = rw (drop_at (drop 1 (take n t.entries)) (d ∷ drop n t.entries) (n - 1) left) (both (is_blank_cached d) (all is_blank_cached (drop n t.entries)) (blank_cached d b b') (rw q f.rest));
        }))

-- ── without the documents of no set ──
pub none_lost : (t : Cache) (keys : Keys) (lost : ℕ) → lost ≡ 0 → view_cache t ≡ keep (stays (docs lost) (view_keys keys)) (view_cache t)
unfolding stays in_documents
none_lost t keys lost e =
    keep_all (stays (docs lost) (view_keys keys)) (view_cache t)
    (λ c. rw (e, docs_none) (ap not (any_false (λ q. false) (λ q. refl) (view_keys keys c.key))))

-- ── all brought up to date ──
pub record Dating (cs : List C.Update) (keys : ℕ → List S.Place) (t r : Cache) (n i : ℕ) : Type 0 where
  pub made : Remaking view_cached (λ c. after_changes cs (keys c.key) c) t.entries 16 r.entries i
  pub count : r.count ≡ t.count
  pub end : n ≡ min t.count 16
  pub form : cache_form t ≡ true → cache_form r ≡ true

module _ {cs : List C.Update} {keys : ℕ → List S.Place} {t : Cache} {n : ℕ} where
  pub date_start : length t.entries ≡ 16 → n ≡ length (view_cache t) → Dating cs keys t t n 0
  date_start l e = record { made = remake_start l; count = refl; end = length_is t n l e; form = λ f. f }

  module _ {r : Cache} {i : ℕ} (inv : Dating cs keys t r n i) where
    pub date_next : (d c : Cached) → i < n → view_cached c ≡ after_changes cs (keys (view_cached (get_or r.entries i d)).key) (view_cached (get_or r.entries i d)) → (cached_form (get_or r.entries i d) ≡ true → cached_form c ≡ true)
        → Dating cs keys t (record { count = r.count; entries = set r.entries i c }) n (i + 1)
    unfolding cache_form
    date_next d c h e f =
        let q = inv.count in
        let o = inv.end in
        let m : i < r.count = omega arith in
        record {
          made = remake_here inv.made d (omega arith) e;
          count = q;
          end = o;
          form = λ g. form_set 16 cached_form is_blank_cached r.count r.entries i c m (f (entry_form r i d m (inv.form g))) (inv.form g);
        }

    pub date_end : n ≤ i → view_cache r ≡ map (λ c. after_changes cs (keys c.key) c) (view_cache t)
    unfolding view_cache
    date_end h = rw inv.count (remake_done inv.made t.count (rw inv.end at h))

-- ── a cached key with the places that the table of keys gives it ──
pub key_is : (c : Cached) (k : ℕ) → eqb k c.key ≡ eqb k (view_cached c).key
unfolding view_cached
key_is c k = refl

module _ (c : Cached) (keys : Keys) (k : Key) (e : view_key k ≡ view_keys keys c.key) where
  pub shows_is : (q : Place) {r : Bool} → r ≡ any (S.same_place (view_place q)) (view_key k) → r ≡ D.shows_it (view_keys keys) (view_place q) (view_cached c)
  unfolding D.shows_it view_cached
  shows_is q h = h ∙ ap (any (S.same_place (view_place q))) e

  -- the field of a place, by the table of keys
  pub field_of : (q : Place) {r : S.Field} → r ≡ D.field_at (view_place q) (view_key k) (view_cached c).fields → r ≡ D.field_at (view_place q) (view_keys keys (view_cached c).key) (view_cached c).fields
  unfolding view_cached
  field_of q h = h ∙ rw e
