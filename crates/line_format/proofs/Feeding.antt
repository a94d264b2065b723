-- Pieces one after the other do what the whole input does, however it is cut.
use Prim.Native.Nat.{ℕ, suc, zero}
use mathlib.Core.Path.{◌≡◌, refl, sym, ◌∙◌, ap, subst}
use mathlib.Core.Bool.{false, true≢false}
use mathlib.Core.List.{List, [], ◌++◌, ◌∷◌, append_assoc, append-nil, map}
use lib.ListN.{take}
use lib.Dec.{eqb}
use borrow.Author.Tests.{eqb-true}
use Rattle.rules.proofs.Laws.{by_case}
use Rattle.rules.specs.Tables.{Plant}
use Rattle.line_format.specs.Bytes.{newline, line_limit}
use Rattle.line_format.specs.Serving.{served, lines_of, Serves}
use Rattle.line_format.specs.Feeding.{has_end, complete, unended, last_line, Feeds}
use Rattle.line_format.proofs.Cutting.{complete_none, unended_all, no_end_append, complete_line, unended_line, unended_no_end, complete_append, unended_append, lines_complete}
use Rattle.line_format.proofs.Serving.{serves_append, served_short}

-- ── a line cut short, with more after it ──
abbrev shortened : List (List ℕ) → List (List ℕ)
shortened = map (take line_limit)

-- what is kept of a line and of more is what would be kept had the line been kept whole
pub take_front : {A : Type 0} (k : ℕ) (u v : List A) → take k (take k u ++ v) ≡ take k (u ++ v)
take_front zero u v = refl
take_front (suc k) [] v = refl
take_front (suc k) (a ∷ u) v = ap (λ l. a ∷ l) (take_front k u v)

-- two lines that begin alike, with the same bytes after them
module _ (b : ℕ) (u v : List ℕ) (e : take line_limit u ≡ take line_limit v) where
  alike : take line_limit (u ++ (b ∷ [])) ≡ take line_limit (v ++ (b ∷ []))
  alike = sym (take_front line_limit u (b ∷ [])) ∙ ap (λ l. take line_limit (l ++ (b ∷ []))) e ∙ take_front line_limit v (b ∷ [])

one_more : (u : List ℕ) (b : ℕ) → has_end u ≡ false → eqb b newline ≡ false → has_end (u ++ (b ∷ [])) ≡ false
one_more u b h n = no_end_append u (b ∷ []) h (rw n refl)

same_complete : (l u v : List ℕ) → has_end u ≡ false → has_end v ≡ false → take line_limit u ≡ take line_limit v → shortened (complete (u ++ l)) ≡ shortened (complete (v ++ l))
same_complete [] u v h k e = rw (append-nil u, append-nil v, complete_none u h, complete_none v k) refl
same_complete (b ∷ l) u v h k e =
    by_case (eqb b newline)
    (λ t.
    let n = eqb-true b newline t in
    rw (n, complete_line u l h, complete_line v l k) (ap (λ m. m ∷ shortened (complete l)) e))
    (λ t.
    rw (← append_assoc u (b ∷ []) l, ← append_assoc v (b ∷ []) l)
    (same_complete l (u ++ (b ∷ [])) (v ++ (b ∷ [])) (one_more u b h t) (one_more v b k t) (alike b u v e)))

same_unended : (l u v : List ℕ) → has_end u ≡ false → has_end v ≡ false → take line_limit u ≡ take line_limit v → take line_limit (unended (u ++ l)) ≡ take line_limit (unended (v ++ l))
same_unended [] u v h k e = rw (append-nil u, append-nil v, unended_all u h, unended_all v k) e
same_unended (b ∷ l) u v h k e =
    by_case (eqb b newline)
    (λ t.
    let n = eqb-true b newline t in
    rw (n, unended_line u l h, unended_line v l k) refl)
    (λ t.
    rw (← append_assoc u (b ∷ []) l, ← append_assoc v (b ∷ []) l)
    (same_unended l (u ++ (b ∷ [])) (v ++ (b ∷ [])) (one_more u b h t) (one_more v b k t) (alike b u v e)))

no_end_take : (k : ℕ) (u : List ℕ) → has_end u ≡ false → has_end (take k u) ≡ false
no_end_take zero u h = refl
no_end_take (suc k) [] h = refl
no_end_take (suc k) (b ∷ u) h = by_case (eqb b newline) (λ t. absurd (true≢false (rw t at h))) (λ t. rw t (no_end_take k u (rw t at h)))

take_again : (u : List ℕ) → take line_limit (take line_limit u) ≡ take line_limit u
take_again u = ap (take line_limit) (sym (append-nil (take line_limit u))) ∙ take_front line_limit u [] ∙ ap (take line_limit) (append-nil u)

whole_last : (l : List ℕ) (q r : Plant) (last : List ℕ) → Serves (last_line (take line_limit l)) q last r → Serves (last_line l) q last r
whole_last [] q r last s = s
whole_last (b ∷ l) q r last s = s ∙ served_short ((b ∷ l) ∷ []) q

-- ── pieces ──
-- what is kept of a line never holds byte 10
pub feeds_free : (kept piece out left : List ℕ) (p q : Plant) → Feeds kept p piece out left q → has_end left ≡ false
feeds_free kept piece out left p q f = rw f.keeps (no_end_take line_limit (unended (kept ++ piece)) (unended_no_end (kept ++ piece)))

pub feeds_append : (kept xs ys out out' mid left : List ℕ) (p q r : Plant) → Feeds kept p xs out mid q → Feeds mid q ys out' left r → Feeds kept p (xs ++ ys) (out ++ out') left r
feeds_append kept xs ys out out' mid left p q r f g =
    let u = unended (kept ++ xs) in
    let free = unended_no_end (kept ++ xs) in
    let short : shortened (complete (mid ++ ys)) ≡ shortened (complete (u ++ ys)) =
    same_complete ys mid u (feeds_free kept xs out mid p q f) free (ap (take line_limit) f.keeps ∙ take_again u) in
    let tail : take line_limit (unended (mid ++ ys)) ≡ take line_limit (unended (u ++ ys)) =
    same_unended ys mid u (feeds_free kept xs out mid p q f) free (ap (take line_limit) f.keeps ∙ take_again u) in
    record {
      serves =
          subst (λ ls. Serves ls p (out ++ out') r) (sym (ap complete (sym (append_assoc kept xs ys)) ∙ complete_append (kept ++ xs) ys))
          (serves_append (complete (kept ++ xs)) (complete (u ++ ys)) p q r out out' f.serves
          (g.serves ∙ sym (served_short (complete (mid ++ ys)) q) ∙ ap (λ ls. served ls q) short ∙ served_short (complete (u ++ ys)) q));
      keeps = g.keeps ∙ tail ∙ ap (take line_limit) (sym (ap unended (sym (append_assoc kept xs ys)) ∙ unended_append (kept ++ xs) ys));
    }

-- the whole input: its lines, with the one that the end of input ends
pub feeds_whole : (input out left last : List ℕ) (p q r : Plant) → Feeds [] p input out left q → Serves (last_line left) q last r → Serves (lines_of input) p (out ++ last) r
feeds_whole input out left last p q r f g =
    subst (λ ls. Serves ls p (out ++ last) r) (sym (lines_complete input))
    (serves_append (complete input) (last_line (unended input)) p q r out last f.serves (whole_last (unended input) q r last (subst (λ l. Serves (last_line l) q last r) f.keeps g)))
