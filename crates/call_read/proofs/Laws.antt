-- What read answers, the words it fills and the plant it leaves, one law for each way out.
use mathlib.Core.Path.{◌≡◌, refl, sym, ◌∙◌, ap, ap₂, subst}
use mathlib.Core.Bool.{true, false}
use mathlib.Core.Option as O
use mathlib.Core.Option.{none, some}
use mathlib.Core.List.{List, [], ◌∷◌, map}
use Prim.Native.Nat.{ℕ, ◌<◌, ◌≤◌, ◌*◌}
use lib.IntN.{ℤ, pos}
use lib.ListN.{length, length-map}
use mir.Syntax.{w64}
use mir.Val.{SFits}
use borrow.Author.Tests.{not-false, ltb-true, ltb-false, le-leb}
use Rattle.std.specs.Prelude.{Option, Some, None, Result, Ok, Err}
use Rattle.std.specs.Option.{ok_or}
use Rattle.std.specs.Result.{IsErrAnd}
use Rattle.rules.specs.Limits.{key_count, words_per_field}
use Rattle.rules.specs.Values as S
use Rattle.rules.specs.Refusals as R
use Rattle.rules.specs.Refusals.{out_of_range, was_doomed, few_words, store_away, first}
use Rattle.rules.specs.Tables as M
use Rattle.rules.specs.Reading.{seen}
use Rattle.rules.specs.Calls.{Read, fine, mark_number}
use Rattle.rules.specs.Calls as C
use Rattle.rules.specs.Conditions.{conditions}
use Rattle.rules.specs.Effects.{mark, with_shared, only_at, cache_by, after_read}
use Rattle.rules.specs.Step.{accepted, step}
use Rattle.rules.proofs.Laws.{NoneMet, none_met, not_met}
use Rattle.rules.proofs.Steps.{step-fine}
use Rattle.rules.proofs.Away.{key_places}
use Rattle.arguments.specs.Numbers.{session_number, index_number}
use Rattle.arguments.proofs.Numbers.{held, session_is, indexed_is}
use Rattle.keys.specs.View.{view_key, view_keys}
use Rattle.keys.specs.declared.Key.{Key}
use Rattle.sessions.specs.session.View.{within, with_shared_at}
use Rattle.sessions.proofs.session.SessionLaws.{within_all}
use Rattle.sessions.proofs.session.Granting.{shared_kept}
use Rattle.sessions.specs.View.{view_sessions}
use Rattle.sessions.specs.Form.{sessions_form}
use Rattle.sessions.specs.declared.Sessions.{Sessions}
use Rattle.cache.specs.cached.View.{view_cached}
use Rattle.cache.specs.cached.Form.{cached_form}
use Rattle.cache.specs.declared.cached.Cached.{Cached}
use Rattle.cache.specs.View.{view_cache}
use Rattle.cache.specs.Form.{cache_form}
use Rattle.cache.specs.declared.Cache.{Cache}
use Rattle.store.specs.View.{store_form}
use Rattle.plant.specs.View.{view_plant, kept_plant, plant_form}
use Rattle.plant.specs.declared.Plant.{Plant}
use Rattle.plant.proofs.PlantLaws.{kept_parts}
use Rattle.plant.proofs.Formed.{form_parts, form_with_cache, form_with_sessions}
use Rattle.answers.specs.View.{view_refusal, view_mark, answer_by}
use Rattle.answers.specs.declared.Refusal.{Refusal}
use Rattle.answers.specs.declared.Mark.{Mark}
use Rattle.promises.specs.Promise.{result, Performs}
use Rattle.promises.proofs.Telling.{none_held, left_accepted}
use Rattle.call_read_shown.specs.values.Shown.{shown_in}
use Rattle.sight.specs.Sight.{sight, sight_away, at_hand}
use Rattle.call_read_shown.specs.Fields.{own_of, by_mark, shown_fields}
use Rattle.call_read_shown.specs.declared.Marked.{Marked}
use Rattle.call_read_shown.proofs.Kept.{shown_is, cache_is}
use Rattle.call_read.specs.Left.{left}
use Rattle.call_read.specs.declared.Left.{Left}
use Rattle.call_read.specs.Shows.{Shows, words_by, found_answer, found_words, Found}
use Rattle.call_read.proofs.Named.{named}

-- ── the tables looked at are the plant's ──
module _ (p : Plant) (n k : ℕ) where
  abbrev looked : M.Plant
  looked = sight p.near p.store p.keys p.cache p.sessions p.buffer p.rows

  same_conditions : (lent : List ℤ) → conditions (Read (pos n) (pos k)) lent (sight_away p.near p.keys p.cache p.sessions p.buffer) ≡ conditions (Read (pos n) (pos k)) lent (view_plant p)
  unfolding conditions sight_away view_plant
  same_conditions lent = refl

  same_mark : mark n k looked ≡ mark n k (view_plant p)
  unfolding sight view_plant
  same_mark = refl

  same_fields : shown_fields n k looked ≡ shown_fields n k (view_plant p)
  unfolding shown_fields sight view_plant
  same_fields = go (mark n k (view_plant p))
    where
      go : (m : C.Mark) → by_mark m n k looked ≡ by_mark m n k (view_plant p)
      go C.from_cache = refl
      go C.cached_now = refl
      go C.own_change = refl

  -- while the store is away they are found without it
  away_mark : mark n k looked ≡ mark n k (at_hand p)
  unfolding sight sight_away
  away_mark = refl

  away_fields : p.near ≡ false → shown_fields n k looked ≡ shown_fields n k (at_hand p)
  unfolding shown_fields sight sight_away
  away_fields h = go (mark n k (at_hand p))
    where
      go : (m : C.Mark) → by_mark m n k looked ≡ by_mark m n k (at_hand p)
      go C.from_cache = refl
      go C.cached_now = rw h refl
      go C.own_change = rw h refl

-- ── what `ok_or` says of its refusal ──
pub named_by : {B : Type 0} (o : Option B) (x y : Refusal) → Err y ≡ ok_or o x → (o ≡ None) × (y ≡ x)
named_by None x y e = let i : y ≡ x = cc in (refl, i)
named_by (Some b) x y e = cc

-- ── what no refusal says of the numbers ──
module _ (p : Plant) (h : kept_plant p ≡ true) (n k : ℕ) (lent : List ℤ) (m : NoneMet (conditions (Read (pos n) (pos k)) lent (view_plant p))) where
  in_range_lem : k < key_count
  unfolding conditions
  in_range_lem = ltb-true k key_count (not-false _ (not_met _ out_of_range m.0))

  is_live : (M.session n (view_sessions p.sessions)).doomed ≡ false
  unfolding conditions view_plant
  is_live = not_met _ was_doomed m.1.1.0

  fields_are : shown_fields n k (view_plant p) ≡ map (seen (view_plant p) (own_of n (view_plant p))) ((view_plant p).keys k)
  unfolding conditions
  fields_are = shown_is (view_plant p) (kept_parts p h) n k in_range_lem (not_met _ store_away m.1.1.1.1.1.1.0)

  cache_are : cache_by (mark n k (view_plant p)) (record { key = k; fields = shown_fields n k (view_plant p) }) (view_plant p).cache ≡ (after_read n k (view_plant p)).cache
  unfolding conditions after_read
  cache_are = cache_is (view_plant p) (kept_parts p h) n k in_range_lem (not_met _ store_away m.1.1.1.1.1.1.0)

  words_are : (fs : List S.Field) → fs ≡ shown_fields n k (view_plant p) → shown_in fs lent ≡ (accepted (Read (pos n) (pos k)) lent (view_plant p)).words
  unfolding conditions accepted shown_in
  words_are fs e =
      let qs : List S.Place = (view_plant p).keys k in
      let l : words_per_field * length qs ≤ length lent = ltb-false (length lent) (words_per_field * length qs) (not_met _ few_words m.1.1.1.1.0) in
      rw (e ∙ fields_are, length-map qs (seen (view_plant p) (own_of n (view_plant p))), le-leb (words_per_field * length qs) (length lent) l) refl

-- ── the answer and the words ──
module _ (p : Plant) (z : ℤ) (fz : SFits w64 z) (n : ℕ) (en : n ≡ session_number (held z))
    (y : ℤ) (fy : SFits w64 y) (k : ℕ) (ek : k ≡ index_number (held y) key_count) where
  it : k ≡ index_number y key_count
  it = indexed_is y fy key_count k ek

  -- what is met by what is found without the store, at these numbers
  abbrev met : List ℤ → O.Option R.Refusal
  met lent = first (conditions (Read (pos n) (pos k)) lent (at_hand p))

  module _ (lent : List ℤ) where
    abbrev FoundAt : C.Answer → List ℤ → ℕ → ℕ → Type 0
    FoundAt b ws i j = (b ≡ answer_by (first (conditions (Read (pos i) (pos j)) lent (at_hand p))) (mark_number (mark i j (at_hand p)) ∷ [])) × (ws ≡ words_by (first (conditions (Read (pos i) (pos j)) lent (at_hand p))) (shown_fields i j (at_hand p)) lent)

    found : (b : C.Answer) (ws : List ℤ) → FoundAt b ws n k → (b ≡ found_answer z y lent (at_hand p)) × (ws ≡ found_words z y lent (at_hand p))
    unfolding found_answer found_words
    found b ws h = subst (FoundAt b ws (session_number z)) it (subst (λ i. FoundAt b ws i k) (session_is z fz n en) h)

    told : first (conditions (Read (pos n) (pos k)) lent (view_plant p)) ≡ met lent
    told = ap first (sym (same_conditions p n k lent))

    -- all that is promised of an answer and the words with it
    abbrev FoundSo : C.Answer → List ℤ → Type 0
    FoundSo b ws =
        (p.near ≡ false → (b ≡ found_answer z y lent (at_hand p)) × (ws ≡ found_words z y lent (at_hand p)))
        × ((kept_plant p ≡ true → b ≡ (result (Read z y) lent p).answer) × (kept_plant p ≡ true → ws ≡ (result (Read z y) lent p).words))

    module _ (r : R.Refusal) (t : some r ≡ met lent) where
      turned : result (Read (pos n) (pos k)) lent p ≡ record { answer = C.refused r; words = lent; plant = (result (Read (pos n) (pos k)) lent p).plant }
      unfolding step
      turned = rw (told ∙ sym t) refl

      turned_so : FoundSo (C.refused r) lent
      turned_so = (
        λ h. found (C.refused r) lent (rw (sym t) refl, rw (sym t) refl),
        (
          λ h. sym (ap (λ (x : C.Result). x.answer) (named p z fz n en y fy k ek h lent ∙ turned)),
          λ h. sym (ap (λ (x : C.Result). x.words) (named p z fz n en y fy k ek h lent ∙ turned)),
        ),
      )

    module _ (t : none ≡ met lent) where
      shown_found : (m : Mark) → view_mark m ≡ mark n k (looked p n k) → (c : Cached) → view_cached c ≡ record { key = k; fields = shown_fields n k (looked p n k) } → p.near ≡ false
          → (fine (mark_number (view_mark m) ∷ []) ≡ found_answer z y lent (at_hand p)) × (shown_in (view_cached c).fields lent ≡ found_words z y lent (at_hand p))
      shown_found m em c ec h =
          found (fine (mark_number (view_mark m) ∷ [])) (shown_in (view_cached c).fields lent) (rw (sym t) (ap (λ (x : C.Mark). fine (mark_number x ∷ [])) (em ∙ away_mark p n k)), rw (sym t) (ap (λ fs. shown_in fs lent) (ap (λ (x : M.Cached). x.fields) ec ∙ away_fields p n k h)))

      none_meets : NoneMet (conditions (Read (pos n) (pos k)) lent (view_plant p))
      none_meets = none_met (conditions (Read (pos n) (pos k)) lent (view_plant p)) (told ∙ sym t)

      reads : kept_plant p ≡ true → accepted (Read (pos n) (pos k)) lent (view_plant p) ≡ result (Read z y) lent p
      reads h = sym (named p z fz n en y fy k ek h lent ∙ step-fine (Read (pos n) (pos k)) lent (view_plant p) none_meets)

      marked : (m : Mark) → view_mark m ≡ mark n k (looked p n k) → kept_plant p ≡ true → fine (mark_number (view_mark m) ∷ []) ≡ (result (Read z y) lent p).answer
      unfolding accepted
      marked m e h = ap (λ (x : C.Mark). fine (mark_number x ∷ [])) (e ∙ same_mark p n k) ∙ ap (λ (x : C.Result). x.answer) (reads h)

      shown_filled : (c : Cached) → view_cached c ≡ record { key = k; fields = shown_fields n k (looked p n k) } → kept_plant p ≡ true → shown_in (view_cached c).fields lent ≡ (result (Read z y) lent p).words
      shown_filled c e h = words_are p h n k lent none_meets (view_cached c).fields (ap (λ (x : M.Cached). x.fields) e ∙ same_fields p n k) ∙ ap (λ (x : C.Result). x.words) (reads h)

      shown_all : (m : Marked) → view_mark m.mark ≡ mark n k (looked p n k) → view_cached m.fields ≡ record { key = k; fields = shown_fields n k (looked p n k) } → FoundSo (fine (mark_number (view_mark m.mark) ∷ [])) (shown_in (view_cached m.fields).fields lent)
      shown_all m em ec = (shown_found m.mark em m.fields ec, (marked m.mark em, shown_filled m.fields ec))

  -- ── what it shows ──
  pub shown_so : (m : Marked) → view_mark m.mark ≡ mark n k (looked p n k) → view_cached m.fields ≡ record { key = k; fields = shown_fields n k (looked p n k) } → Shows z y p m
  shown_so m em ef = (em ∙ same_mark p n k ∙ ap₂ (λ a b. mark a b (view_plant p)) (session_is z fz n en) it, ef ∙ ap (λ fs. record { key = k; fields = fs }) (same_fields p n k) ∙ ap₂ (λ a b. record { key = b; fields = shown_fields a b (view_plant p) }) (session_is z fz n en) it)

  caches_so : (m : Marked) → Shows z y p m → cache_by (view_mark m.mark) (view_cached m.fields) (view_cache p.cache) ≡ cache_by (mark n k (view_plant p)) (record { key = k; fields = shown_fields n k (view_plant p) }) (view_cache p.cache)
  caches_so m s =
      ap₂ (λ x c. cache_by x c (view_cache p.cache))
      (s.0 ∙ sym (ap₂ (λ a b. mark a b (view_plant p)) (session_is z fz n en) it))
      (s.1 ∙ sym (ap₂ (λ a b. record { key = b; fields = shown_fields a b (view_plant p) }) (session_is z fz n en) it))

  -- ── what is found, by what is met ──
  module _ (lent : ℕ) where
    -- a refusal that is passed on by `?`
    pub found_turned : (o : Result Marked Refusal) (r : Refusal) → IsErrAnd o (λ x. x ≡ r) → ((words : List ℤ) → lent ≡ length words → some (view_refusal r) ≡ met words) → Found z y p lent o
    found_turned (Ok m) r e t = absurd e
    found_turned (Err x) r e t =
        let so : (words : List ℤ) → length words ≡ lent → FoundSo words (C.refused (view_refusal x)) words = λ words l. turned_so words (view_refusal x) (ap (λ q. some (view_refusal q)) e ∙ t words (sym l)) in
        record {
          away = λ h words l. (so words l).0 h;
          answers = λ words l. (so words l).1.0;
          fills = λ words l. (so words l).1.1;
          own = refl;
          shows = tt;
          form = λ f. tt;
        }

    pub found_shown : (m : Marked) → ((words : List ℤ) → lent ≡ length words → none ≡ met words) → view_mark m.mark ≡ mark n k (looked p n k) → view_cached m.fields ≡ record { key = k; fields = shown_fields n k (looked p n k) } → (store_form p.store ≡ true → cache_form p.cache ≡ true → cached_form m.fields ≡ true) → Found z y p lent (Ok m)
    found_shown m t em ec f =
        let so : (words : List ℤ) → length words ≡ lent → FoundSo words (fine (mark_number (view_mark m.mark) ∷ [])) (shown_in (view_cached m.fields).fields words) = λ words l. shown_all words (t words (sym l)) m em ec in
        record {
          away = λ h words l. (so words l).0 h;
          answers = λ words l. (so words l).1.0;
          fills = λ words l. (so words l).1.1;
          own = refl;
          shows = shown_so m em ec;
          form = λ h. let x = form_parts p h in f x.store x.cache;
        }

-- ── the plant left ──
pub leaves_form : (p : Plant) (r : Left) → (cache_form p.cache ≡ true → cache_form r.cache ≡ true) → (sessions_form p.sessions ≡ true → sessions_form r.sessions ≡ true) → plant_form p ≡ true → plant_form (left p r) ≡ true
leaves_form p r fc fs f = form_with_sessions _ r.sessions fs (form_with_cache p r.cache fc f)

module _ (p : Plant) (z : ℤ) (fz : SFits w64 z) (y : ℤ) (fy : SFits w64 y)
    (n : ℕ) (en : n ≡ session_number (held z)) (k : ℕ) (ek : k ≡ index_number (held y) key_count)
    (m : Marked) (c : Cache) (ec : view_cache c ≡ cache_by (view_mark m.mark) (view_cached m.fields) (view_cache p.cache)) (key : Key) (eq : view_key key ≡ view_keys p.keys k)
    (s : Sessions) (es : view_sessions s ≡ M.each (only_at n (with_shared_at p.clock (within (view_key key)))) (view_sessions p.sessions)) where
  abbrev with_read : Plant
  with_read = left p (record { cache = c; sessions = s })

  -- all documents of the key are among those that leases are held on
  shared_is : kept_plant p ≡ true → k < key_count → (M.session n (view_sessions p.sessions)).doomed ≡ false → view_sessions s ≡ M.each (only_at n (with_shared p.clock (view_keys p.keys k))) (view_sessions p.sessions)
  unfolding view_plant
  shared_is h l d =
      es ∙ shared_kept n (kept_parts p h).slots d (within (view_key key)) ∙ ap (λ (qs : List S.Place). M.each (only_at n (with_shared p.clock qs)) (view_sessions p.sessions))
      (ap within eq ∙ within_all (view_keys p.keys k) (key_places (view_plant p) k (kept_parts p h) l))

  pub leaves : Shows z y p m → Performs (Read z y) p with_read
  unfolding view_plant accepted after_read
  leaves shows h lent i =
      let e = named p z fz n en y fy k ek h lent in
      let none = none_held (Read (pos n) (pos k)) lent (view_plant p) _ (ap (λ (x : C.Result). x.answer) e) i in
      rw (ec ∙ caches_so p z fz n en y fy k ek m shows ∙ cache_are p h n k lent none, shared_is h (in_range_lem p h n k lent none) (is_live p h n k lent none)) refl
      ∙ left_accepted (Read (pos n) (pos k)) lent (view_plant p) none
      ∙ ap (λ (x : C.Result). x.plant) (sym e)
