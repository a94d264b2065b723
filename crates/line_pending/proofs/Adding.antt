-- Bytes added to those kept of a line, as far as there is room.
use Prim.Native.Nat.{◌+◌, ◌-◌, ◌<◌, min, suc, zero, ℕ}
use native.Mathlib.Omega.{arith}
use mathlib.Core.Path.{◌≡◌, ◌∙◌, ap, refl, sym}
use mathlib.Core.List.{List, [], ◌++◌, ◌∷◌}
use lib.ListN.{length, length-take, take}
use lib.Seq.{length-take-le, take-append-add}
use lib.Dec.{eqb}
use borrow.Author.Tests.{ne_eqb}
use borrow.Rule.Slice.PartMut.{put_mid}
use Rattle.std.proofs.lemmas.Slice.{take-put_mid}
use Rattle.rules.specs.Lists.{is_empty}
use Rattle.lists.proofs.Loops.{take_min}
use Rattle.line_pending.specs.View.{view_pending}
use Rattle.line_pending.specs.declared.Pending.{Pending}

-- those kept, and as many of part as there is room for
pub add_shows : (k len : ℕ) (line part : List ℕ) {at n : ℕ} {new x : List ℕ} → length line ≡ k → at ≡ min len k → new ≡ take n x → n ≡ min (length x) (k - at) → x ≡ part
    → take (at + n) (put_mid at (at + n - at) line new) ≡ take k (take len line ++ part)
add_shows k len line part {at} {n} {new} {x} l a e m f =
    let long : length new ≡ n = ap length e ∙ length-take n x ∙ omega arith in
    let kept : take at line ≡ take len line = rw (a, ← l) (take_min len line) in
    let count : length (take at line) ≡ at = length-take-le at line (omega arith) in
    let fit : n ≡ min (k - at) (length x) = omega arith in
    let room : at + (k - at) ≡ k = omega arith in
    take-put_mid at (at + n - at) line new (at + n) (omega arith) (omega arith)
    ∙ ap (λ z. take at line ++ z) (e ∙ rw fit (take_min (k - at) x) ∙ ap (take (k - at)) f)
    ∙ sym (rw (count, room) at (take-append-add (take at line) part (k - at)))
    ∙ ap (λ z. take k (z ++ part)) kept

-- ── whether nothing is kept ──
none_taken : (n : ℕ) (l : List ℕ) → 0 < length l → eqb n 0 ≡ is_empty (take n l)
none_taken zero l h = refl
none_taken (suc n) [] h = absurd (omega arith)
none_taken (suc n) (b ∷ l) h = let o : suc n ≡ 0 → ⊥ = λ z. omega arith in rw (ne_eqb (suc n) 0 o)

pub none_kept : (t : Pending) → length t.line ≡ 123 → eqb t.len 0 ≡ is_empty (view_pending t)
unfolding view_pending
none_kept t l = none_taken t.len t.line (omega (arith, l))
