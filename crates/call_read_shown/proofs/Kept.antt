-- On a kept plant the fields that the code finds are those that the session sees.
use mathlib.Core.Path.{◌≡◌, refl, sym, ◌∙◌, ap, ap₂}
use mathlib.Core.Bool.{true, false, not, cond, true≢false}
use mathlib.Core.List.{List, [], ◌∷◌, map}
use Prim.Native.Nat.{ℕ, ◌<◌}
use lib.Dec.{eqb}
use lib.ListN.{length, length-map}
use Rattle.rules.specs.Limits.{key_count}
use Rattle.rules.specs.Lists.{any, all}
use Rattle.rules.specs.Values.{Place, in_range}
use Rattle.rules.specs.Changes.{Update}
use Rattle.rules.specs.Tables as M
use Rattle.rules.specs.Reading.{current, seen, known}
use Rattle.rules.specs.Effects.{touched, mark, cache_by, cache_after}
use Rattle.rules.proofs.Laws.{by_case}
use Rattle.rules.proofs.Tests.{all_head, all_tail}
use Rattle.rules.proofs.KeptParts.{Kept}
use Rattle.rules.proofs.Away.{value_is, key_places, cached_fields, cached_fields_lem, untouched_shows}
use Rattle.call_read_shown.specs.values.Shown.{cached_at}
use Rattle.sight.specs.Value.{value}
use Rattle.call_read_shown.specs.Fields.{own_of, worked_fields, shown_fields}

at_fields : (k : ℕ) (l : List M.Cached) → (cached_at k l).fields ≡ cached_fields k l
unfolding cached_at
at_fields k [] = refl
at_fields k (c ∷ l) = by_case (eqb k c.key) (λ t. rw t refl) (λ t. rw t (at_fields k l))

module _ (p : M.Plant) (h : Kept p) where
  worked_all : (own : List Update) (qs : List Place) → all in_range qs ≡ true → any (λ q. not (known p own q)) qs ≡ false → map (value p own) qs ≡ map (seen p own) qs
  worked_all own [] r e = refl
  worked_all own (q ∷ qs) r e =
      by_case (known p own q)
      (λ t. ap₂ ◌∷◌ (value_is p own q h (all_head in_range q qs r) t)
      (worked_all own qs (all_tail in_range q qs r) (ap (λ b. cond (not b) true (any (λ x. not (known p own x)) qs)) (sym t) ∙ e)))
      (λ t. absurd (true≢false (ap (λ b. cond (not b) true (any (λ x. not (known p own x)) qs)) (sym t) ∙ e)))

  -- as many as the key has places
  pub shown_count : (n k : ℕ) → length (shown_fields n k p) ≡ length (p.keys k)
  unfolding shown_fields
  shown_count n k =
      let worked = length-map (p.keys k) (value p (own_of n p)) in
      by_case (touched (own_of n p) (p.keys k))
      (λ t. rw t worked)
      (λ t. by_case (M.is_cached k p.cache)
      (λ b. rw (t, b) (ap length (at_fields k p.cache ∙ cached_fields_lem p k h b) ∙ length-map (p.keys k) (current p)))
      (λ b. rw (t, b) worked))

  module _ (n k : ℕ) (lt : k < key_count) (e : any (λ q. not (known p (own_of n p) q)) (p.keys k) ≡ false) where
    worked_is : worked_fields n k p ≡ map (seen p (own_of n p)) (p.keys k)
    worked_is = worked_all (own_of n p) (p.keys k) (key_places p k h lt) e

    pub shown_is : shown_fields n k p ≡ map (seen p (own_of n p)) (p.keys k)
    unfolding shown_fields
    shown_is =
        by_case (touched (own_of n p) (p.keys k))
        (λ t. rw t worked_is)
        (λ t. by_case (M.is_cached k p.cache)
        (λ b. rw (t, b) (at_fields k p.cache ∙ cached_fields_lem p k h b ∙ sym (untouched_shows p (own_of n p) (p.keys k) t)))
        (λ b. rw (t, b) worked_is))

    -- what is cached of what is shown
    pub cache_is : cache_by (mark n k p) (record { key = k; fields = shown_fields n k p }) p.cache ≡ cache_after n k p
    unfolding cache_after
    cache_is =
        by_case (touched (own_of n p) (p.keys k))
        (λ t. rw t refl)
        (λ t. ap (λ fs. cache_by (mark n k p) (record { key = k; fields = fs }) p.cache) (shown_is ∙ untouched_shows p (own_of n p) (p.keys k) t))
