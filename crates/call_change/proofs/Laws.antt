-- What change answers, one law for each way out.
use mathlib.Core.Path.{◌≡◌, refl, sym, ◌∙◌, ap}
use Rattle.std.specs.Prelude.{Result, Ok, Err, Some, None, is_some, IfSome}
use Rattle.std.specs.Prelude as P
use mathlib.Core.Bool.{Bool, true, false, not, ◌&&◌, ◌||◌}
use mathlib.Core.Option.{Option, none, some}
use mathlib.Core.List.{List, [], ◌∷◌, ◌++◌}
use Prim.Native.Nat.{ℕ, suc, ◌<◌, ◌≤◌, ◌+◌}
use native.Mathlib.Numerals.{add-one}
use lib.Dec.{leb}
use lib.IntN.{ℤ}
use lib.ListN.{length}
use mir.Syntax.{w64}
use mir.Val.{SFits}
use mir.Facts.{to_z-of_z}
use borrow.Author.Tests.{lt-ltb, le-leb, lt-leb}
use Rattle.rules.specs.Limits.{document_count, field_count, change_limit}
use Rattle.rules.specs.Values.{below, nat_of, in_range}
use Rattle.rules.specs.Refusals as R
use Rattle.rules.specs.Refusals.{out_of_range, changes_full, exclusive_elsewhere, store_away, ◌⇒◌, first}
use Rattle.rules.specs.Changes.{kind_of, is_set, meets, place_of, update_of}
use Rattle.rules.specs.Changes as C
use Rattle.rules.specs.Tables as M
use Rattle.rules.specs.Calls.{Change, refused, fine}
use Rattle.rules.specs.Calls as A
use Rattle.rules.specs.Reading.{seen, known_away, known}
use Rattle.rules.specs.Conditions.{good_place, good_change, own, conditions}
use Rattle.rules.specs.Step.{accepted}
use Rattle.rules.proofs.Laws.{by_case, and_true, below_is, both}
use Rattle.rules.proofs.Away.{set-meets}
use Rattle.arguments.specs.Numbers.{session_number}
use Rattle.arguments.proofs.Numbers.{held, session_is}
use Rattle.keys.specs.View.{view_place, view_keys}
use Rattle.keys.specs.declared.Keys.{Keys}
use Rattle.field.specs.View.{view_field}
use Rattle.field.specs.declared.Field.{Field}
use Rattle.changes.specs.View.{view_changes, view_update}
use Rattle.changes.specs.declared.Changes.{Changes}
use Rattle.changes.specs.declared.Update.{Update}
use Rattle.sessions.specs.session.View.{view_session}
use Rattle.sessions.specs.declared.session.Session.{Session}
use Rattle.sessions.specs.View.{view_sessions}
use Rattle.sessions.specs.declared.Sessions.{Sessions}
use Rattle.store.specs.View.{view_store}
use Rattle.store.specs.declared.Store.{Store}
use Rattle.rows.specs.View.{view_rows}
use Rattle.rows.specs.declared.Rows.{Rows}
use Rattle.buffer.specs.View.{view_buffer}
use Rattle.buffer.specs.declared.Buffer.{Buffer}
use Rattle.cache.specs.View.{view_cache}
use Rattle.cache.specs.declared.Cache.{Cache}
use Rattle.plant.specs.View.{view_plant, kept_plant}
use Rattle.plant.specs.declared.Plant.{Plant}
use Rattle.answers.specs.View.{view_answer, view_refusal, refusal_met, answer_by}
use Rattle.answers.specs.declared.Answer.{Answer}
use Rattle.answers.specs.declared.Refusal as D
use Rattle.promises.specs.Promise.{result}
use Rattle.promises.proofs.Telling.{refuses, answers_by}
use Rattle.arguments.proofs.change.Asked.{asked_bad, asked_is}
use Rattle.caller.specs.Standing.{standing, Judges}
use Rattle.caller.proofs.Standing.{Asks, turned-first, is_open, its_number, its_session, turned, stands}
use Rattle.sight.specs.Value.{value_by, value}
use Rattle.sight.specs.Sight.{sight, sight_away, at_hand}
use Rattle.sight.proofs.Laws.{value-seen}
use Rattle.call_change.specs.Met.{conditions_by, later_conditions, later_answer, found_answer}

-- ── what it meets at its field; r is what `met` answered ──
module _ (m : Option R.Refusal) (r : Result (Unit {0}) D.Refusal) (e : refusal_met r ≡ m) (n : ℕ) where
  pub meets_none : (u : Unit {0}) → r ≡ Ok u → fine (n ∷ []) ≡ answer_by m (n ∷ [])
  meets_none u h = rw (sym e, h) refl

  pub meets_one : (x : D.Refusal) → r ≡ Err x → refused (view_refusal x) ≡ answer_by m (n ∷ [])
  meets_one x h = rw (sym e, h) refl

-- ── from 5 on ──
first_one : (o : Option R.Refusal) → first (o ∷ []) ≡ o
first_one none = refl
first_one (some r) = refl

module _ (near : Bool) (store : Store) (keys : Keys) (cache : Cache) (sessions : Sessions) (buffer : Buffer) (rows : Rows) (n : ℕ) (own : Changes) (c : Update) (m : ℕ) (em : m ≡ length (view_changes own)) where
  abbrev Later : A.Answer → Type 0
  Later a = a ≡ later_answer (sight near store keys cache sessions buffer rows) n (view_changes own) (view_update c)

  pub is_full_lem : change_limit ≤ m → Later (refused changes_full)
  unfolding later_answer ◌⇒◌
  is_full_lem h = rw (sym em, le-leb change_limit m h) refl

  module _ (h : m < change_limit) (x : Bool) (ex : x ≡ M.others_exclusive n c.place.document (view_sessions sessions)) where
    pub is_elsewhere : x ≡ true → Later (refused exclusive_elsewhere)
    unfolding later_answer sight view_update view_place ◌⇒◌
    is_elsewhere g = rw (sym em, lt-leb change_limit m h, sym ex, g) refl

    module _ (g : x ≡ false) (u : Bool) (eu : u ≡ not (is_set (kind_of c.kind)) && not (near || known_away (view_keys keys) (view_cache cache) (view_buffer buffer) (view_changes own) (view_place c.place))) where
      pub is_away : u ≡ true → Later (refused store_away)
      unfolding later_answer sight view_update view_place ◌⇒◌
      is_away i = rw (sym em, lt-leb change_limit m h, sym ex, g, sym eu, i) refl

      pub is_met : u ≡ false → (f : Field) → view_field f ≡ value_by near (view_store store) (view_keys keys) (view_cache cache) (view_buffer buffer) (view_rows rows) (view_changes own) (view_place c.place) → (r : A.Answer) → r ≡ answer_by (meets (view_update c) (view_field f)) ((m + 1) ∷ []) → Later r
      unfolding later_answer sight view_update view_place ◌⇒◌
      is_met i f ef r er =
          er
          ∙ rw (sym em, lt-leb change_limit m h, sym ex, g, sym eu, i, ef, add-one m)
          (ap (λ o. answer_by o (suc m ∷ [])) (sym (first_one (meets (view_update c) (value_by near (view_store store) (view_keys keys) (view_cache cache) (view_buffer buffer) (view_rows rows) (view_changes own) (view_place c.place))))))

-- ── the whole answer ──
-- the tables looked at are the plant's
same_answer : (p : Plant) (n : ℕ) (own : List C.Update) (c : C.Update) → later_answer (sight p.near p.store p.keys p.cache p.sessions p.buffer p.rows) n own c ≡ later_answer (view_plant p) n own c
unfolding later_answer sight view_plant
same_answer p n own c = refl

first_under : (x y : Option R.Refusal) (s t : List (Option R.Refusal)) → first s ≡ first t → first (x ∷ y ∷ s) ≡ first (x ∷ y ∷ t)
first_under none none s t e = e
first_under none (some r) s t e = refl
first_under (some r) y s t e = refl

-- where the field is needed it is known, and then it is found as it is seen
module _ (p : Plant) (k : kept_plant p ≡ true) (cs : List C.Update) (c : C.Update) (r : in_range c.at ≡ true) where
  abbrev unknown : Option R.Refusal
  unknown = not (is_set c.kind) && not (known (view_plant p) cs c.at) ⇒ store_away

  found : first (unknown ∷ meets c (seen (view_plant p) cs c.at) ∷ []) ≡ first (unknown ∷ meets c (value (view_plant p) cs c.at) ∷ [])
  unfolding ◌⇒◌
  found =
      by_case (is_set c.kind)
      (λ s. rw (s, set-meets c (value (view_plant p) cs c.at) s, set-meets c (seen (view_plant p) cs c.at) s) refl)
      (λ s. by_case (known (view_plant p) cs c.at) (λ g. rw (s, g, value-seen p cs c.at k r g) refl) (λ g. rw (s, g) refl))

  as_seen : (x y : Option R.Refusal) → first (x ∷ y ∷ unknown ∷ meets c (seen (view_plant p) cs c.at) ∷ []) ≡ first (x ∷ y ∷ unknown ∷ meets c (value (view_plant p) cs c.at) ∷ [])
  as_seen x y = first_under x y (unknown ∷ meets c (seen (view_plant p) cs c.at) ∷ []) (unknown ∷ meets c (value (view_plant p) cs c.at) ∷ []) found

-- o is the change of the four numbers
module _ (o : P.Option Update) (p : Plant) (z d f k v : ℤ) (fd : SFits w64 d) (ff : SFits w64 f) (fk : SFits w64 k) (fv : SFits w64 v)
    (eg : is_some o ≡ good_place (held d) (held f) && good_change (held k) (held v)) where
  -- without the store, of any plant
  abbrev Found : A.Answer → Type 0
  Found a = a ≡ found_answer z d f k v (at_hand p)

  pub found_out : o ≡ None → Found (refused out_of_range)
  unfolding found_answer ◌⇒◌
  found_out h = rw (asked_bad d f k v fd ff fk fv o eg h) refl

  pub out_of_range_lem : (lent : List ℤ) → o ≡ None → refused out_of_range ≡ (result (Change z d f k v) lent p).answer
  unfolding conditions ◌⇒◌
  out_of_range_lem lent h = refuses (Change z d f k v) lent (view_plant p) _ (rw (asked_bad d f k v fd ff fk fv o eg h) refl)

  module _ (h : is_some o ≡ true) where
    good : good_place d f && good_change k v ≡ true
    good = sym (rw (to_z-of_z fd, to_z-of_z ff, to_z-of_z fk, to_z-of_z fv) at eg) ∙ h

    module _ (fz : SFits w64 z) (n : ℕ) (e : n ≡ session_number (held z)) where
      abbrev changes : ℕ → List C.Update
      changes i = (M.session i (view_sessions p.sessions)).changes

      abbrev later : ℕ → List (Option R.Refusal)
      later i = later_conditions (at_hand p) i (changes i) (update_of (place_of d f) (nat_of k) v)

      abbrev Told : ℕ → A.Answer
      Told i = answer_by (first ((not (good_place d f && good_change k v) ⇒ out_of_range) ∷ standing i (view_sessions p.sessions) ++ later i)) (suc (length (changes i)) ∷ [])

      at_number : (a : A.Answer) → a ≡ Told n → Found a
      unfolding found_answer sight_away
      at_number a t = t ∙ ap Told (session_is z fz n e)

      pub found-turned : (r : D.Refusal) → Judges p.sessions n (Err r) → Found (refused (view_refusal r))
      unfolding ◌⇒◌
      found-turned r j = at_number (refused (view_refusal r)) (rw good (turned-first p.sessions n r j (later n) (suc (length (changes n)) ∷ [])))

      asks : Asks (λ i. Change i d f k v) (λ i q. conditions_by (seen q (own i q) (place_of d f)) q (nat_of i) (own i q) (update_of (place_of d f) (nat_of k) v))
      unfolding conditions ◌⇒◌
      asks = record { first_two = λ i l q. rw good refl }

      pub turned_away : (kept : kept_plant p ≡ true) (lent : List ℤ) (r : D.Refusal) → Judges p.sessions n (Err r) → refused (view_refusal r) ≡ (result (Change z d f k v) lent p).answer
      turned_away kept lent r j = turned asks p kept z fz n e lent r j

      at_place : in_range (place_of d f) ≡ true
      at_place =
          let x = and_true (good_place d f) (good_change k v) good in
          let y = and_true (below d document_count) (below f field_count) x.0 in
          both _ _ (lt-ltb (nat_of d) document_count (below_is d document_count y.0)) (lt-ltb (nat_of f) field_count (below_is f field_count y.1))

      module _ (c : Update) (is : o ≡ Some c) (ec : IfSome o (λ u. view_update u ≡ update_of (place_of (held d) (held f)) (nat_of (held k)) (held v))) (s : Session) (j : Judges p.sessions n (Ok s)) where
        update_is : view_update c ≡ update_of (place_of d f) (nat_of k) v
        update_is = asked_is d f k v fd ff fk fv o ec c is

        pub found-later : (r : A.Answer) → r ≡ later_answer (sight p.near p.store p.keys p.cache p.sessions p.buffer p.rows) n (view_changes s.changes) (view_update c) → p.near ≡ false → Found r
        unfolding later_answer sight sight_away view_session ◌⇒◌
        found-later r er a =
            let i = is_open p.sessions n s j in
            let mine : changes n ≡ view_changes s.changes = ap (λ (x : M.Session). x.changes) (sym j.shows) in
            at_number r (er ∙ rw (good, i.0, i.1, mine, a, update_is) refl)

        module _ (kept : kept_plant p ≡ true) (lent : List ℤ) where
          own_is : own z (view_plant p) ≡ view_changes s.changes
          unfolding view_session view_plant
          own_is = ap (λ (x : M.Session). x.changes) (its_session p kept z fz n e s j)

          pub meeting : (r : Result Answer D.Refusal) → view_answer r ≡ later_answer (sight p.near p.store p.keys p.cache p.sessions p.buffer p.rows) n (view_changes s.changes) (view_update c) → view_answer r ≡ (result (Change z d f k v) lent p).answer
          unfolding view_plant accepted later_answer
          meeting r er =
              er
              ∙ same_answer p n (view_changes s.changes) (view_update c)
              ∙ answers_by (Change z d f k v) lent (view_plant p) (suc (length (view_changes s.changes)) ∷ []) (rw own_is refl)
              (first (later_conditions (view_plant p) n (view_changes s.changes) (view_update c)))
              (stands asks p kept z fz n e lent s j
              ∙ rw (own_is, its_number p kept z fz n e s j, update_is)
              (as_seen p kept (view_changes s.changes) (update_of (place_of d f) (nat_of k) v) at_place
              (leb change_limit (length (view_changes s.changes)) ⇒ changes_full) (M.others_exclusive n (nat_of d) (view_sessions p.sessions) ⇒ exclusive_elsewhere)))
