-- The six changes (paper 01, from 000's Table 2), and what a list of changes makes of a stock.
use Rattle.std.specs.Prelude.{ℕ, Bool, ◌&&◌, ◌||◌, cond, false, not, true, List, [], ◌++◌, ◌∷◌, length, leb, ◌+ℤ◌, pos, ℤ}
use Rattle.std.proofs.Math.Option.{Option, none, some}
use Rattle.rules.specs.Lists.{keep, any, is_case, case_of, same_case}
use Rattle.rules.specs.Limits.{member_limit}
use Rattle.rules.specs.Refusals.{Refusal, wrong_kind, seventh_member, sum_too_large}
use Rattle.rules.specs.Values.{fits32, eq_z, nat_of, is_natural, Place, same_place, in_range, Field, absent, number, list, Stock}

pub data Kind : Type 0 where
  set unset inc add push pull : Kind

abbrev pub kind_number : Kind → ℕ
kind_number set = 1
kind_number unset = 2
kind_number inc = 3
kind_number add = 4
kind_number push = 5
kind_number pull = 6

abbrev pub kinds : List Kind
kinds = set ∷ unset ∷ inc ∷ add ∷ push ∷ pull ∷ []

abbrev pub kind_of : ℕ → Kind
kind_of = case_of kind_number pull kinds

-- one change of one place
pub record Update : Type 0 where
  pub at : Place
  pub kind : Kind
  pub value : ℤ

pub data Outcome : Type 0 where
  becomes : Field → Outcome
  fails : Refusal → Outcome

unfoldable pub member : ℤ → List ℤ → Bool
member v [] = false
member v (w ∷ ws) = cond (eq_z w v) true (member v ws)

-- the members that do not equal v
abbrev pub pull_all : ℤ → List ℤ → List ℤ
pull_all v = keep (λ w. not (eq_z w v))

unfoldable pub put_last : ℤ → List ℤ → Outcome
put_last v l = cond (leb member_limit (length l)) (fails seventh_member) (becomes (list (l ++ (v ∷ []))))

unfoldable pub change : Kind → ℤ → Field → Outcome
change set v f = becomes (number v)
change unset v f = becomes absent
change inc v absent = becomes (number v)
change inc v (number a) = cond (fits32 (a +ℤ v)) (becomes (number (a +ℤ v))) (fails sum_too_large)
change inc v (list l) = fails wrong_kind
change add v absent = becomes (list (v ∷ []))
change add v (number a) = fails wrong_kind
change add v (list l) = cond (member v l) (becomes (list l)) (put_last v l)
change push v absent = becomes (list (v ∷ []))
change push v (number a) = fails wrong_kind
change push v (list l) = put_last v l
change pull v absent = becomes absent
change pull v (number a) = fails wrong_kind
change pull v (list l) = becomes (list (pull_all v l))

unfoldable pub outcome_refusal : Outcome → Option Refusal
outcome_refusal (becomes f) = none
outcome_refusal (fails r) = some r

unfoldable pub field_of : Outcome → Field → Field
field_of (becomes g) f = g
field_of (fails r) f = f

-- the refusal that a change meets at a field (6, 7, 8), and the field after it
unfoldable pub meets : Update → Field → Option Refusal
meets c f = outcome_refusal (change c.kind c.value f)

unfoldable pub updated : Update → Field → Field
updated c f = field_of (change c.kind c.value f) f

-- a place's field after a change, and after changes, from its field before
unfoldable pub field_after : Place → Field → Update → Field
field_after p f c = cond (same_place p c.at) (updated c f) f

abbrev pub run : List Update → Place → Field → Field
run [] p f = f
run (c ∷ cs) p f = run cs p (field_after p f c)

-- a stock followed by changes
abbrev pub follow : Stock → List Update → Stock
follow s cs p = run cs p (s p)

abbrev pub is_none : Option Refusal → Bool
is_none none = true
is_none (some r) = false

-- are the changes accepted in order
abbrev pub accepts : Stock → List Update → Bool
accepts s [] = true
accepts s (c ∷ cs) = is_none (meets c (s c.at)) && accepts (follow s (c ∷ [])) cs

abbrev pub touches : List Update → Place → Bool
touches cs p = any (λ c. same_place p c.at) cs

abbrev pub is_set : Kind → Bool
is_set k = same_case kind_number k set || same_case kind_number k unset

-- does a change set or unset the place
unfoldable pub sets : Place → Update → Bool
sets p c = same_place p c.at && is_set c.kind

abbrev pub sets_it : List Update → Place → Bool
sets_it cs p = any (sets p) cs

-- ── a change as arguments ──
-- unset's value must be 0
abbrev pub good_value : Kind → ℤ → Bool
good_value k v = cond (same_case kind_number k unset) (eq_z v (pos 0)) (fits32 v)

abbrev pub good_kind : ℤ → Bool
good_kind k = is_natural k && is_case kind_number kinds (nat_of k)

abbrev pub place_of : ℤ → ℤ → Place
place_of d f = record { document = nat_of d; field = nat_of f }

abbrev pub update_of : Place → ℕ → ℤ → Update
update_of q k v = record { at = q; kind = kind_of k; value = v }

-- a change that a table may hold
abbrev pub update_ok : Update → Bool
update_ok c = in_range c.at && good_value c.kind c.value
