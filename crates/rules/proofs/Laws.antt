-- Laws of conditions, stocks and pages.
use Prim.Native.Nat.{◌<◌, ℕ}
use mathlib.Core.Path.{◌≡◌, ap, fun_ext, refl, subst, sym}
use mathlib.Core.Bool.{Bool, ◌&&◌, ◌||◌, false, true, true≢false}
use mathlib.Core.Option.{Option, none, some}
use mathlib.Core.List.{List, [], ◌++◌, ◌∷◌, append_assoc}
use lib.ListN.{length}
use lib.Dec.{eqb}
use lib.IntN.{negsuc, pos, ℤ}
use borrow.Author.Tests.{eq-eqb, eqb-false, eqb-true, lt-ltb, ltb-true, ne_eqb}
-- the worked runs come first: a definition that is off shows there before it shows in a law
use Rattle.rules.proofs.Worked.{worked_runs}
use Rattle.rules.specs.Lists.{pushed, is_empty, is_case, case_of}
use Rattle.rules.specs.Refusals.{Refusal, ◌⇒◌, first}
use Rattle.rules.specs.Values.{below, nat_of, Place, same_place, Field, Stock}
use Rattle.rules.specs.Changes.{Update, field_after, run, follow}
use Rattle.rules.specs.History.{saw, wrote, Page, changes_of, Committed, whole}
use Rattle.rules.specs.Demand3.{Right, AllRight}

pub by_case {ℓ} : {P : Type ℓ} (b : Bool) → (b ≡ true → P) → (b ≡ false → P) → P
by_case true f g = f refl
by_case false f g = g refl

pub self : (n : ℕ) → eqb n n ≡ true
self n = eq-eqb n n refl

pub eqb-sym : (n m : ℕ) → eqb n m ≡ false → eqb m n ≡ false
eqb-sym n m e = ne_eqb m n (λ q. eqb-false n m e (sym q))

-- ── conditions ──
pub first_cons : (o : Option Refusal) (l : List (Option Refusal)) → first (o ∷ l) ≡ none → (o ≡ none) × (first l ≡ none)
first_cons none l e = (refl, e)
first_cons (some n) l e = (e, cc)

pub not_met : (b : Bool) (n : Refusal) → (b ⇒ n) ≡ none → b ≡ false
unfolding ◌⇒◌
not_met true n e = cc
not_met false n e = refl

abbrev pub NoneMet : List (Option Refusal) → Type 0
NoneMet [] = Unit {0}
NoneMet (o ∷ l) = (o ≡ none) × NoneMet l

pub none_met : (l : List (Option Refusal)) → first l ≡ none → NoneMet l
none_met [] e = tt
none_met (o ∷ l) e = ((first_cons o l e).0, none_met l (first_cons o l e).1)

-- ── tests ──
pub or_false : (a b : Bool) → a || b ≡ false → (a ≡ false) × (b ≡ false)
or_false true b e = absurd (true≢false e)
or_false false b e = (refl, e)

pub or_one : (b : Bool) → b || true ≡ true
or_one true = refl
or_one false = refl

pub or_zero_lem : (b : Bool) → b || false ≡ b
or_zero_lem true = refl
or_zero_lem false = refl

pub and_true : (a b : Bool) → a && b ≡ true → (a ≡ true) × (b ≡ true)
and_true true b e = (refl, e)
and_true false b e = absurd (true≢false (sym e))

pub both : (a b : Bool) → a ≡ true → b ≡ true → a && b ≡ true
both a b e f = rw (e, f)

-- the case of a number has that number
pub case_number : {A : Type 0} (number : A → ℕ) (e : A) (l : List A) (n : ℕ) → is_case number l n ≡ true → number (case_of number e l n) ≡ n
case_number number e [] n h = absurd (true≢false (sym h))
case_number number e (a ∷ l) n h = by_case (eqb n (number a)) (λ t. rw t (sym (eqb-true n (number a) t))) (λ t. rw t (case_number number e l n (rw t at h)))

pub below_is : (z : ℤ) (n : ℕ) → below z n ≡ true → nat_of z < n
below_is (pos k) n e = ltb-true k n e
below_is (negsuc k) n e = absurd (true≢false (sym e))

-- ── stocks ──
pub run_append : (a b : List Update) (p : Place) (f : Field) → run (a ++ b) p f ≡ run b p (run a p f)
run_append [] b p f = refl
run_append (c ∷ a) b p f = run_append a b p (field_after p f c)

pub follow_append : (s : Stock) (a b : List Update) → follow s (a ++ b) ≡ follow (follow s a) b
follow_append s a b = fun_ext (λ p. run_append a b p (s p))

pub whole_append : (a b : List Committed) → whole (a ++ b) ≡ whole a ++ whole b
whole_append [] b = refl
whole_append (x ∷ a) b = rw (whole_append a b) (sym (append_assoc (changes_of x.page) (whole a) (whole b)))

pub changes_append : (a b : Page) → changes_of (a ++ b) ≡ changes_of a ++ changes_of b
changes_append [] b = refl
changes_append (saw q w ∷ a) b = changes_append a b
changes_append (wrote c ∷ a) b = ap (λ l. c ∷ l) (changes_append a b)

-- ── pages ──
pub right_append : (s : Stock) (a b : Page) → Right s a → Right (follow s (changes_of a)) b → Right s (a ++ b)
right_append s [] b r t = t
right_append s (saw q w ∷ a) b r t = (r.0, right_append s a b r.1 t)
right_append s (wrote c ∷ a) b r t = (r.0, right_append (follow s (c ∷ [])) a b r.1 t)

pub all_right_append : (s : Stock) (a b : List Committed) → AllRight s a → AllRight (follow s (whole a)) b → AllRight s (a ++ b)
all_right_append s [] b r t = t
all_right_append s (x ∷ a) b r t = (
  r.0,
  all_right_append (follow s (changes_of x.page)) a b r.1
      (subst (λ z. AllRight z b) (follow_append s (changes_of x.page) (whole a)) t),
)

-- ── places ──
pub same_place_is : (q r : Place) → same_place q r ≡ true → q ≡ r
same_place_is q r e =
    λ i. record {
      document =
          eqb-true q.document r.document (l (eqb q.document r.document) (eqb q.field r.field) e) i;
      field =
          eqb-true q.field r.field (g (eqb q.document r.document) (eqb q.field r.field) e) i;
    }
  where
    l : (a b : Bool) → a && b ≡ true → a ≡ true
    l true b h = refl
    l false b h = h

    g : (a b : Bool) → a && b ≡ true → b ≡ true
    g true b h = h
    g false b h = absurd (true≢false (sym h))

-- ── lists ──
-- a table that has room grows by one
pub pushed_room : {A : Type 0} (k : ℕ) (l : List A) (a : A) → length l < k → pushed k l a ≡ l ++ (a ∷ [])
unfolding pushed
pushed_room k l a h = rw (lt-ltb (length l) k h)

pub nil_snoc : {A : Type 0} (l : List A) (a : A) → is_empty (l ++ (a ∷ [])) ≡ false
nil_snoc [] a = refl
nil_snoc (b ∷ l) a = refl

pub nil_is : {A : Type 0} (l : List A) → is_empty l ≡ true → l ≡ []
nil_is [] e = refl
nil_is (a ∷ l) e = absurd (true≢false (sym e))
