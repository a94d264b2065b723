-- A loop over the documents of a set from the lowest up: it takes the lowest of what is left, works on it, and goes on without it.
--     let mut rest = set; while rest != 0 { let d = lowest(rest); .. rest = without(rest, d); }
-- Inside the loop d is a document (next_below), and fewer documents are left after a turn (rest_fewer).
-- A search (Looking) may leave the loop at a hit.
use Prim.Native.Nat.{◌+◌, ◌<◌, ◌^◌, ◌≤◌, suc, zero, ℕ}
use native.Mathlib.Omega.{arith}
use mathlib.Core.Path.{◌≡◌, ◌∙◌, ap, fun_ext, refl, sym}
use mathlib.Core.Bool.{Bool, ◌&&◌, false, not, true, true≢false}
use mathlib.Core.List.{[], List, ◌∷◌}
use lib.Dec.{lit<, ltb}
use lib.ListN.{set}
use borrow.Author.Tests.{ltb-false, ltb-true, ne_eqb, not-true}
use Rattle.rules.specs.Lists.{any, from, keep, override, span}
use Rattle.rules.specs.Limits.{document_count}
use Rattle.rules.specs.Tables.{documents}
use Rattle.rules.specs.Step.{count}
use Rattle.rules.proofs.Laws.{by_case, self}
use Rattle.rules.proofs.Tests.{all-upto, any_none}
use Rattle.docset.specs.Sets.{docs}
use Rattle.docset.proofs.SetLaws.{docs_decide, docs_none, docs_past}

-- ── the first number of a span that passes a test, and the others ──
keep_same : (f g : ℕ → Bool) (n k : ℕ) → ((e : ℕ) → n ≤ e → f e ≡ g e) → keep f (span n k) ≡ keep g (span n k)
keep_same f g n zero h = refl
keep_same f g n (suc k) h = rw (h n (omega arith), keep_same f g (n + 1) k (λ e l. h e (omega arith)))

record First (f : ℕ → Bool) (n k d : ℕ) : Type 0 where
  pub up : n ≤ d
  pub below : d < n + k
  pub split : keep f (span n k) ≡ d ∷ keep (override f d false) (span n k)

module _ (f : ℕ → Bool) (n k : ℕ) where
  first_here : f n ≡ true → First f n (suc k) n
  first_here t =
      let q = keep_same f (override f n false) (n + 1) k (λ m l. rw (ne_eqb m n (λ q. omega arith))) in
      record { up = omega arith; below = omega arith; split = rw (t, self n) (ap (λ l. n ∷ l) q) }

  first_later : (d : ℕ) → f n ≡ false → First f (n + 1) k d → First f n (suc k) d
  first_later d t r =
      let u = r.up in
      record { up = omega arith; below = omega (arith, r.below); split = rw (t, ne_eqb n d (λ q. omega arith)) r.split }

first : (f : ℕ → Bool) (n k e : ℕ) → any f (span n k) ≡ true → First f n k (from f (λ d. d) e (span n k))
first f n zero e h = absurd (true≢false (sym h))
first f n (suc k) e h =
    by_case (f n)
    (λ t. rw t (first_here f n k t))
    (λ t. rw t (first_later f n k _ t (first f (n + 1) k e (rw t at h))))

-- a set of 64 digits that holds no document is 0
none_left : (s : ℕ) → s < 2 ^ 64 → any (docs s) documents ≡ false → s ≡ 0
unfolding documents
none_left s h e =
    let none = any_none (docs s) documents e in
    docs_decide s 0 h (lit< tt)
    (fun_ext (λ d.
    by_case (ltb d 64)
    (λ t. not-true (docs s d) (all-upto (λ a. not (docs s a)) 64 d none (ltb-true d 64 t)))
    (λ t. sym (docs_past s d h (ltb-false d 64 t))))
    ∙ sym docs_none)

-- ── one turn of the loop ──
module _ {rest d : ℕ} (h : rest < 2 ^ 64) (n : rest ≡ 0 → ⊥) (e : d ≡ from (docs rest) (λ a. a) document_count documents) where
  turn : First (docs rest) 0 64 d
  unfolding documents
  turn = rw e (first (docs rest) 0 64 64 (by_case (any (docs rest) documents) (λ t. t) (λ t. absurd (n (none_left rest h t)))))

  pub next_below : d < 64
  next_below = turn.below

  next_split : keep (docs rest) documents ≡ d ∷ keep (override (docs rest) d false) documents
  unfolding documents
  next_split = turn.split

  pub rest_fewer : (r : ℕ) → docs r ≡ override (docs rest) d false → count (docs r) documents < count (docs rest) documents
  rest_fewer r q = rw (q, next_split) (omega arith)

-- the loop ends
keep_none : {A : Type 0} (l : List A) → keep (λ a. false) l ≡ []
keep_none [] = refl
keep_none (a ∷ l) = keep_none l

none_kept : {rest : ℕ} → rest ≡ 0 → keep (docs rest) documents ≡ []
none_kept z = rw (z, docs_none) (keep_none documents)

-- ── a search: the answer is whether a document of the set passes p ──
pub record Looking (p : ℕ → Bool) (whole : Bool) (rest : ℕ) : Type 0 where
  pub fits : rest < 2 ^ 64
  pub left : whole ≡ any p (keep (docs rest) documents)

any_kept : {A : Type 0} (f p : A → Bool) (l : List A) → any (λ a. f a && p a) l ≡ any p (keep f l)
any_kept f p [] = refl
any_kept f p (a ∷ l) = by_case (f a) (λ t. rw (t, any_kept f p l)) (λ t. rw (t, any_kept f p l))

pub look_start : (p : ℕ → Bool) (set : ℕ) → set < 2 ^ 64 → Looking p (any (λ d. docs set d && p d) documents) set
look_start p set h = record { fits = h; left = any_kept (docs set) p documents }

module _ {p : ℕ → Bool} {whole : Bool} {rest : ℕ} (inv : Looking p whole rest) where
  module _ {d : ℕ} (n : rest ≡ 0 → ⊥) (e : d ≡ from (docs rest) (λ a. a) document_count documents) where
    pub look_hit : p d ≡ true → true ≡ whole
    look_hit t = sym (inv.left ∙ rw (next_split inv.fits n e, t) refl)

    pub look_next : (r : ℕ) → p d ≡ false → r < 2 ^ 64 → docs r ≡ override (docs rest) d false → Looking p whole r
    look_next r t h o = record { fits = h; left = inv.left ∙ rw (o, next_split inv.fits n e, t) refl }

  pub look_end : rest ≡ 0 → false ≡ whole
  look_end z = sym (inv.left ∙ rw (none_kept z) refl)
