-- A test that every refusal passes which the conditions of a call can give, and so the one that it gets.
use mathlib.Core.Path.{◌≡◌, refl}
use mathlib.Core.Bool.{Bool, false, true}
use mathlib.Core.Option.{Option, none, some}
use mathlib.Core.List.{List, [], ◌∷◌}
use lib.ListN.{length}
use lib.Dec.{leb}
use lib.IntN.{◌+ℤ◌, ℤ}
use Rattle.rules.specs.Limits.{member_limit}
use Rattle.rules.specs.Refusals.{Refusal, wrong_kind, seventh_member, sum_too_large, ◌⇒◌, first}
use Rattle.rules.specs.Values.{fits32, Field, absent, number, list}
use Rattle.rules.specs.Changes.{Kind, set, unset, inc, add, push, pull, Update, member, put_last, change, outcome_refusal, meets}
use Rattle.rules.proofs.Laws.{by_case}

module _ (test : Refusal → Bool) where
  abbrev pub passes : Option Refusal → Bool
  passes none = true
  passes (some r) = test r

  abbrev pub AllPass : List (Option Refusal) → Type 0
  AllPass [] = Unit {0}
  AllPass (o ∷ l) = (passes o ≡ true) × AllPass l

  pub pass : (b : Bool) (r : Refusal) → test r ≡ true → passes (b ⇒ r) ≡ true
  unfolding ◌⇒◌
  pass true r e = e
  pass false r e = refl

  -- a change at a field meets 6, 7 or 8
  pub change-passes : test wrong_kind ≡ true → test seventh_member ≡ true → test sum_too_large ≡ true → (c : Update) (f : Field) → passes (meets c f) ≡ true
  unfolding meets outcome_refusal change put_last
  change-passes six seven eight c f = go c.kind f
    where
      last : (l : List ℤ) → passes (outcome_refusal (put_last c.value l)) ≡ true
      last l = by_case (leb member_limit (length l)) (λ e. rw e seven) (λ e. rw e)

      go : (k : Kind) (g : Field) → passes (outcome_refusal (change k c.value g)) ≡ true
      go set g = refl
      go unset g = refl
      go inc absent = refl
      go inc (number a) = by_case (fits32 (a +ℤ c.value)) (λ e. rw e) (λ e. rw e eight)
      go inc (list l) = six
      go add absent = refl
      go add (number a) = six
      go add (list l) = by_case (member c.value l) (λ e. rw e) (λ e. rw e (last l))
      go push absent = refl
      go push (number a) = six
      go push (list l) = last l
      go pull absent = refl
      go pull (number a) = six
      go pull (list l) = refl

  pub first_passes : (l : List (Option Refusal)) (r : Refusal) → AllPass l → first l ≡ some r → test r ≡ true
  first_passes [] r a e = cc
  first_passes (none ∷ l) r a e = first_passes l r a.1 e
  first_passes (some x ∷ l) r a e = let q : x ≡ r = cc in rw (← q) a.0
