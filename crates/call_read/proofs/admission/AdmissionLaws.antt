-- Who is turned away from a read: one law for each way out.
use mathlib.Core.Path.{◌≡◌, refl, sym, ◌∙◌, ap}
use mathlib.Core.Bool.{Bool, true, false, not}
use mathlib.Core.Option.{Option, none, some}
use mathlib.Core.List.{List}
use Prim.Native.Nat.{ℕ, ◌*◌, ◌≤◌, ◌<◌}
use lib.IntN.{ℤ, pos}
use lib.ListN.{drop, length}
use borrow.Author.Tests.{lt-ltb, le-ltb}
use Rattle.std.specs.Prelude.{Result, Ok, Err}
use Rattle.std.specs.Result.{IsErrAnd}
use Rattle.rules.specs.Limits.{key_count, words_per_field}
use Rattle.rules.specs.Lists.{any, is_empty}
use Rattle.rules.specs.Refusals as R
use Rattle.rules.specs.Refusals.{first, ◌⇒◌}
use Rattle.rules.specs.Tables as M
use Rattle.rules.specs.Reading.{known_away}
use Rattle.rules.specs.Calls.{Read}
use Rattle.rules.specs.Conditions.{conditions}
use Rattle.lists.proofs.Indexed.{any_false}
use Rattle.keys.specs.View.{view_key, view_keys}
use Rattle.keys.specs.declared.Keys.{Keys}
use Rattle.keys.specs.declared.Key.{Key}
use Rattle.changes.specs.View.{view_changes}
use Rattle.sessions.specs.session.View.{view_session}
use Rattle.sessions.specs.declared.session.Session.{Session}
use Rattle.sessions.specs.View.{view_sessions}
use Rattle.sessions.specs.declared.Sessions.{Sessions}
use Rattle.buffer.specs.View.{view_buffer}
use Rattle.buffer.specs.declared.Buffer.{Buffer}
use Rattle.cache.specs.View.{view_cache}
use Rattle.cache.specs.declared.Cache.{Cache}
use Rattle.answers.specs.View.{view_refusal, refusal_met}
use Rattle.answers.specs.declared.Refusal.{Refusal}
use Rattle.caller.specs.Standing.{Judges}
use Rattle.caller.proofs.Standing.{first_met, is_open}
use Rattle.sight.specs.Sight.{sight_away}

-- a refusal that is passed on by `?`
met_on : {A : Type 0} (o : Result A Refusal) (r : Refusal) → IsErrAnd o (λ y. y ≡ r) → refusal_met o ≡ some (view_refusal r)
met_on (Ok a) r e = absurd e
met_on (Err y) r e = ap (λ x. some (view_refusal x)) e

module _ (near : Bool) (keys : Keys) (cache : Cache) (sessions : Sessions) (buffer : Buffer) (n k : ℕ) (words : List ℤ) where
  abbrev Met : Option R.Refusal → Type 0
  Met o = o ≡ first (conditions (Read (pos n) (pos k)) words (sight_away near keys cache sessions buffer))

  pub out_of_range_lem : key_count ≤ k → Met (some R.out_of_range)
  unfolding conditions sight_away ◌⇒◌
  out_of_range_lem h = rw (le-ltb k key_count h) refl

  module _ (h : k < key_count) where
    pub turned : {A : Type 0} (o : Result A Refusal) {r : Refusal} → IsErrAnd o (λ y. y ≡ r) → Judges sessions n (Err r) → Met (refusal_met o)
    unfolding conditions sight_away ◌⇒◌
    turned o {r} e j = met_on o r e ∙ rw (lt-ltb k key_count h) (sym (first_met sessions n r j (drop 3 (conditions (Read (pos n) (pos k)) words (sight_away near keys cache sessions buffer)))))

    module _ {s : Session} (j : Judges sessions n (Ok s)) where
      has : M.has_slot n (view_sessions sessions) ≡ true
      has = (is_open sessions n s j).0

      live : (M.session n (view_sessions sessions)).doomed ≡ false
      live = (is_open sessions n s j).1

      own_is : (M.session n (view_sessions sessions)).changes ≡ view_changes s.changes
      unfolding view_session
      own_is = ap (λ (x : M.Session). x.changes) (sym j.shows)

      module _ (key : Key) (ek : view_key key ≡ view_keys keys k) {b : Bool} (eb : b ≡ is_empty (view_key key)) where
        pub undefined : b ≡ true → Met (some R.key_undefined)
        unfolding conditions sight_away ◌⇒◌
        undefined u = rw (lt-ltb k key_count h, has, live, sym ek, sym eb, u) refl

        module _ (u : b ≡ false) {lent : ℕ} (el : lent ≡ length words) {m : ℕ} (em : m ≡ length (view_key key)) where
          pub few_words_lem : lent < words_per_field * m → Met (some R.few_words)
          unfolding conditions sight_away ◌⇒◌
          few_words_lem w = rw (lt-ltb k key_count h, has, live, sym ek, sym eb, u, sym el, sym em, lt-ltb lent (words_per_field * m) w) refl

          module _ (w : words_per_field * m ≤ lent) {x : Bool} (ex : x ≡ any (λ q. M.others_exclusive n q.document (view_sessions sessions)) (view_key key)) where
            pub elsewhere : x ≡ true → Met (some R.exclusive_elsewhere)
            unfolding conditions sight_away ◌⇒◌
            elsewhere v = rw (lt-ltb k key_count h, has, live, sym ek, sym eb, u, sym el, sym em, le-ltb lent (words_per_field * m) w, sym ex, v) refl

            module _ (v : x ≡ false) where
              pub is_near_lem : near ≡ true → Met none
              unfolding conditions sight_away ◌⇒◌
              is_near_lem o = rw (lt-ltb k key_count h, has, live, sym ek, sym eb, u, sym el, sym em, le-ltb lent (words_per_field * m) w, sym ex, v, o, any_false (λ q. false) (λ q. refl) (view_key key)) refl

              module _ (o : near ≡ false) {y : Bool} (ey : y ≡ any (λ q. not (known_away (view_keys keys) (view_cache cache) (view_buffer buffer) (view_changes s.changes) q)) (view_key key)) where
                pub away : y ≡ true → Met (some R.store_away)
                unfolding conditions sight_away ◌⇒◌
                away i = rw (lt-ltb k key_count h, has, live, sym ek, sym eb, u, sym el, sym em, le-ltb lent (words_per_field * m) w, sym ex, v, o, own_is, sym ey, i) refl

                pub known : y ≡ false → Met none
                unfolding conditions sight_away ◌⇒◌
                known i = rw (lt-ltb k key_count h, has, live, sym ek, sym eb, u, sym el, sym em, le-ltb lent (words_per_field * m) w, sym ex, v, o, own_is, sym ey, i) refl
