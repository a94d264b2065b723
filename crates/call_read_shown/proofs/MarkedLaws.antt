-- What a read shows and caches: one law for each way out of a function.
use mathlib.Core.Path.{◌≡◌, refl, sym, ◌∙◌, ap, ap₂}
use mathlib.Core.Bool.{Bool, true, false}
use mathlib.Core.Logic.{◌⊎◌, inl, inr}
use mathlib.Core.List.{List, [], ◌∷◌, map}
use Prim.Native.Nat.{ℕ, ◌≤◌, ◌<◌}
use lib.Dec.{eqb}
use borrow.Author.Tests.{le-leb, lt-leb, eqb-true}
use lib.ListN.{drop, length}
use Rattle.rules.specs.Limits.{cache_limit}
use Rattle.rules.specs.Lists.{pushed}
use Rattle.rules.specs.Changes.{follow}
use Rattle.rules.specs.Tables as M
use Rattle.rules.specs.Tables.{pending, changes_in}
use Rattle.rules.specs.Reading.{seen_away}
use Rattle.rules.specs.Calls as C
use Rattle.rules.specs.Effects.{touched, evicted, mark, cache_by}
use Rattle.rules.proofs.Laws.{by_case}
use Rattle.keys.specs.View.{view_key, view_keys}
use Rattle.keys.specs.declared.Keys.{Keys}
use Rattle.keys.specs.declared.Key.{Key}
use Rattle.changes.specs.View.{view_changes}
use Rattle.sessions.specs.session.View.{view_session}
use Rattle.sessions.specs.declared.session.Session.{Session}
use Rattle.sessions.specs.View.{view_sessions}
use Rattle.sessions.specs.declared.Sessions.{Sessions}
use Rattle.cache.specs.cached.View.{view_cached}
use Rattle.cache.specs.declared.cached.Cached.{Cached}
use Rattle.cache.specs.View.{view_cache}
use Rattle.cache.specs.declared.Cache.{Cache}
use Rattle.answers.specs.View.{view_mark}
use Rattle.answers.specs.declared.Mark.{Mark}
use Rattle.answers.specs.declared.Mark.TheVariants as variant
use Rattle.store.specs.View.{view_store}
use Rattle.store.specs.declared.Store.{Store}
use Rattle.rows.specs.View.{view_rows}
use Rattle.rows.specs.declared.Rows.{Rows}
use Rattle.buffer.specs.View.{view_buffer}
use Rattle.buffer.specs.declared.Buffer.{Buffer}
use Rattle.call_read_shown.specs.values.Shown.{cached_at}
use Rattle.sight.specs.Value.{value}
use Rattle.sight.specs.Sight.{sight}
use Rattle.call_read_shown.specs.Fields.{worked_fields, by_mark, shown_fields}

-- the cached key of a number has that number
at_key : (k : ℕ) (l : List M.Cached) → cached_at k l ≡ record { key = k; fields = (cached_at k l).fields }
unfolding cached_at
at_key k [] = refl
at_key k (c ∷ l) = by_case (eqb k c.key) (λ t. rw (t, eqb-true k c.key t) refl) (λ t. rw t (at_key k l))

-- ── shown, by the mark ──
module _ (near : Bool) (store : Store) (keys : Keys) (cache : Cache) (sessions : Sessions) (buffer : Buffer) (rows : Rows) (n k : ℕ)
    (s : Session) (es : view_session s ≡ M.session n (view_sessions sessions)) (key : Key) (ek : view_key key ≡ view_keys keys k)
    (t : Bool) (et : t ≡ touched (view_changes s.changes) (view_key key)) where
  abbrev p : M.Plant
  p = sight near store keys cache sessions buffer rows

  own_is : (M.session n (view_sessions sessions)).changes ≡ view_changes s.changes
  unfolding view_session
  own_is = ap (λ (x : M.Session). x.changes) (sym es)

  pub marks_own : t ≡ true → C.own_change ≡ mark n k p
  unfolding sight
  marks_own h = rw (own_is, sym ek, sym et, h) refl

  -- r is what was worked out, w
  module _ {r w : Cached} (e : r ≡ w) where
    abbrev Worked : Type 0
    Worked = view_cached r ≡ record { key = k; fields = worked_fields n k p }

    worked_by : view_cached w ≡ record { key = k; fields = map (value p (view_changes s.changes)) (view_key key) } → Worked
    unfolding sight
    worked_by q = ap view_cached e ∙ q ∙ ap₂ (λ own qs. record { key = k; fields = map (value p own) qs }) (sym own_is) ek

    pub worked_near : near ≡ true → view_cached w ≡ record { key = k; fields = map (follow (follow (view_store store) (changes_in (pending (view_rows rows) (view_buffer buffer)))) (view_changes s.changes)) (view_key key) } → Worked
    unfolding sight
    worked_near h q = worked_by (rw h q)

    pub worked_away : near ≡ false → view_cached w ≡ record { key = k; fields = map (seen_away (view_keys keys) (view_cache cache) (view_buffer buffer) (view_changes s.changes)) (view_key key) } → Worked
    unfolding sight
    worked_away h q = worked_by (rw h q)

  pub shows_own : (r : Cached) → t ≡ true → view_cached r ≡ record { key = k; fields = worked_fields n k p } → view_cached r ≡ record { key = k; fields = shown_fields n k p }
  unfolding shown_fields
  shows_own r h e = e ∙ ap (λ m. record { key = k; fields = by_mark m n k p }) (marks_own h)

  module _ (h : t ≡ false) where
    module _ (g : M.is_cached k (view_cache cache) ≡ true) where
      pub marks_cached : C.from_cache ≡ mark n k p
      unfolding sight
      marks_cached = rw (own_is, sym ek, sym et, h, g) refl

      pub shows_cached : (r : Cached) → view_cached r ≡ cached_at k (view_cache cache) → view_cached r ≡ record { key = k; fields = shown_fields n k p }
      unfolding shown_fields sight
      shows_cached r e = e ∙ at_key k (view_cache cache) ∙ rw (own_is, sym ek, sym et, h, g) refl

    module _ (g : M.is_cached k (view_cache cache) ≡ false) where
      pub marks_now : C.cached_now ≡ mark n k p
      unfolding sight
      marks_now = rw (own_is, sym ek, sym et, h, g) refl

      pub shows_now : (r : Cached) → view_cached r ≡ record { key = k; fields = worked_fields n k p } → view_cached r ≡ record { key = k; fields = shown_fields n k p }
      unfolding shown_fields
      shows_now r e = e ∙ ap (λ m. record { key = k; fields = by_mark m n k p }) marks_now

-- ── cached, by the mark ──
module _ (m : Mark) (c : Cached) (cache : Cache) where
  pub caches_one : m ≡ variant.CachedNow → (room r : Cache) → view_cache room ≡ evicted (view_cache cache) → view_cache r ≡ pushed cache_limit (view_cache room) (view_cached c)
      → view_cache r ≡ cache_by (view_mark m) (view_cached c) (view_cache cache)
  caches_one e room r er q = q ∙ rw (e, er) refl

  pub caches_none : (m ≡ variant.FromCache) ⊎ (m ≡ variant.OwnChange) → view_cache cache ≡ cache_by (view_mark m) (view_cached c) (view_cache cache)
  caches_none (inl e) = rw e refl
  caches_none (inr e) = rw e refl

-- ── room for one more ──
module _ (c : Cache) (m : ℕ) (e : m ≡ length (view_cache c)) where
  pub gives_way : (r : Cache) → cache_limit ≤ m → view_cache r ≡ drop 1 (view_cache c) → view_cache r ≡ evicted (view_cache c)
  gives_way r h q = q ∙ rw (sym e, le-leb cache_limit m h) refl

  pub has_room : m < cache_limit → view_cache c ≡ evicted (view_cache c)
  has_room h = rw (sym e, lt-leb cache_limit m h) refl
