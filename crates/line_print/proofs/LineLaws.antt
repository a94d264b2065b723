-- Columns one after the other, and the line that they make.
use mathlib.Core.Path.{◌≡◌, refl, sym, ◌∙◌, ap}
use mathlib.Core.Bool.{Bool, true, false}
use mathlib.Core.List.{List, [], ◌∷◌, ◌++◌, append_assoc, append-nil, map}
use Prim.Native.Nat.{ℕ, ◌+◌, ◌-◌, ◌*◌, ◌≤◌, ◌<◌, ◌^◌}
use native.Mathlib.Numerals.{add-one}
use native.Mathlib.Omega.{arith}
use lib.Dec.{leb}
use lib.IntN.{ℤ, pos}
use lib.ListN.{length, get_or, take, drop, set, length-append, length-take, length-map, get_or-map}
use lib.Seq.{take_all, take-suc, length-take-le}
use lib.Signed.{mag}
use mir.Syntax.{w32}
use mir.Val.{to_z, of_z}
use mir.Facts.{to_z-of_z}
use borrow.Author.Rules.{sfits_of}
use borrow.Author.Tests.{leb-true}
use borrow.Rule.Slice.PartMut.{put_mid}
use Rattle.rules.specs.Refusals.{refusal_number}
use Rattle.rules.specs.Calls.{Answer, refused, fine}
use Rattle.rules.specs.Limits.{place_limit, words_per_field}
use Rattle.answers.specs.View.{view_answer}
use Rattle.std.specs.Prelude.{Result}
use Rattle.answers.specs.declared.Answer as answers
use Rattle.answers.specs.declared.Refusal.{Refusal}
use Rattle.line_format.specs.Bytes.{newline, call_width, number_width}
use Rattle.line_format.specs.Columns.{is_negative, magnitude, column}
use Rattle.line_format.specs.Lines.{columns, answer_line}
use Rattle.line_format.specs.Serving.{ended}
use Rattle.line_format.proofs.Widths.{columns_long}
use Rattle.line_print.specs.columns.Printed.{printed}
use Rattle.line_print.specs.told.Told.{refusal_in, numbers_in, words_in, number_limit, Tells, Shows}
use Rattle.line_print.specs.declared.told.Told.{Told}
use Rattle.line_print.proofs.told.ToldLaws.{numbers_few, words_few}
use Rattle.line_print.specs.Line.{line_width, longest, line_of, taken}
use Rattle.line_print.proofs.Written.{Written, nothing, first, as_printed, on, byte}

column-length : (z : ℤ) → length (column number_width z) ≡ number_width
unfolding column
column-length z = columns_long (is_negative z) number_width (magnitude z)

pub columns-length : (zs : List ℤ) → length (columns zs) ≡ number_width * length zs
columns-length [] = refl
columns-length (z ∷ zs) = simp length-append (omega (arith, column-length z, columns-length zs))

columns_last : (zs : List ℤ) (z : ℤ) → columns (zs ++ (z ∷ [])) ≡ columns zs ++ column number_width z
columns_last [] z = append-nil (column number_width z)
columns_last (x ∷ zs) z = ap (λ (l : List ℕ). column number_width x ++ l) (columns_last zs z) ∙ sym (append_assoc (column number_width x) (columns zs) (column number_width z))

-- ── a loop that prints the numbers zs ──
pub record Printing (zs : List ℤ) (v vs : List ℕ) (i : ℕ) : Type 0 where
  pub room : number_width * length zs ≤ length v
  pub at : i ≤ length zs
  pub done : Written v (columns (take i zs)) vs

pub print_start : (zs : List ℤ) (v : List ℕ) → number_width * length zs ≤ length v → Printing zs v v 0
print_start zs v h = record { room = h; at = omega arith; done = nothing }

module _ {zs : List ℤ} {v vs : List ℕ} {i : ℕ} (inv : Printing zs v vs i) where
  here : number_width * i ≡ length (columns (take i zs))
  here =
      let a = inv.at in
      let t : length (take i zs) ≡ i = simp length-take (omega arith) in
      omega (arith, columns-length (take i zs))

  pub print_next : (d z : ℤ) (ys : List ℕ) → i < length zs → z ≡ get_or zs i d → ys ≡ printed (column number_width z) (take (length vs - number_width * i) (drop (number_width * i) vs)) → Printing zs v (put_mid (number_width * i) (length vs - number_width * i) vs ys) (i + 1)
  print_next d z ys h e p =
      let r = inv.room in
      let c : columns (take (i + 1) zs) ≡ columns (take i zs) ++ column number_width z = rw (add-one i, take-suc zs i d h, ← e) (columns_last (take i zs) z) in
      let w = on inv.done (number_width * i) here (column number_width z) ys (omega (arith, column-length z)) p in
      record { room = r; at = omega arith; done = rw c w }

  pub print_end : length zs ≤ i → vs ≡ printed (columns zs) v
  print_end h = as_printed inv.done ∙ ap (λ (l : List ℤ). printed (columns l) v) (take_all i zs (omega arith))

-- a number that is told, and a word, as a local holds it
pub number_at : (ns : List ℕ) (i : ℕ) → pos (get_or ns i 0) ≡ get_or (map pos ns) i (pos 0)
number_at ns i = sym (get_or-map pos ns i 0)

pub word_at : (ws : List ℤ) (i : ℕ) → mag (get_or ws i (pos 0)) < 2 ^ 31 → to_z w32 (of_z w32 (get_or ws i (pos 0))) ≡ get_or ws i (pos 0)
word_at ws i m = to_z-of_z {w = w32} {z = get_or ws i (pos 0)} (sfits_of m)

-- ── the line ──
columns_append : (xs ys : List ℤ) → columns (xs ++ ys) ≡ columns xs ++ columns ys
columns_append [] ys = refl
columns_append (x ∷ xs) ys = ap (λ (l : List ℕ). column number_width x ++ l) (columns_append xs ys) ∙ sym (append_assoc (column number_width x) (columns xs) (columns ys))

in_parts : (a : Answer) (ws : List ℤ) → answer_line a ws ≡ column call_width (pos (refusal_in a)) ++ (columns (map pos (numbers_in a)) ++ columns (words_in a ws))
unfolding answer_line
in_parts (refused r) ws = sym (append-nil (column call_width (pos (refusal_number r))))
in_parts (fine ns) ws = ap (λ (l : List ℕ). column call_width (pos 0) ++ l) (columns_append (map pos ns) ws)

refusal-length : (n : ℕ) → length (column call_width (pos n)) ≡ call_width
unfolding column
refusal-length n = columns_long false call_width n

abbrev refusal : Told → List ℕ
refusal t = column call_width (pos t.refusal)

abbrev numbers : Told → List ℕ
numbers t = columns (map pos (take t.count t.numbers))

pub told_count : (t : Told) → t.count ≤ number_limit → length t.numbers ≡ number_limit → length (take t.count t.numbers) ≡ t.count
told_count t h l = length-take-le t.count t.numbers (omega arith)

-- what is told, the words, and the lengths of their columns
module _ (t : Told) (ws : List ℤ) (l : length (take t.count t.numbers) ≡ t.count) where
  numbers-length : length (numbers t) ≡ number_width * t.count
  numbers-length = omega (arith, columns-length (map pos (take t.count t.numbers)), length-map (take t.count t.numbers) pos)

  line-length : length (line_of t ws) ≡ line_width t.count (length ws)
  line-length = simp length-append (omega (arith, refusal-length t.refusal, numbers-length, columns-length ws))

  abbrev at : ℕ
  at = call_width + number_width * t.count

  -- each part is printed into a part lent on
  abbrev pub parts : List ℕ
  parts = (refusal t ++ numbers t) ++ columns ws

  module _ (v : List ℕ) (h : line_width t.count (length ws) ≤ length v) where
    pub parts_written : (vs ys zs : List ℕ) → vs ≡ printed (refusal t) v → ys ≡ printed (numbers t) (take (length vs - call_width) (drop call_width vs))
        → zs ≡ printed (columns ws) (take (length (put_mid call_width (length vs - call_width) vs ys) - at) (drop at (put_mid call_width (length vs - call_width) vs ys)))
        → Written v parts (put_mid at (length (put_mid call_width (length vs - call_width) vs ys) - at) (put_mid call_width (length vs - call_width) vs ys) zs)
    parts_written vs ys zs p q r =
        let r₀ = refusal-length t.refusal in
        let n₀ = numbers-length in
        let w₀ = columns-length ws in
        let w₁ = first v (refusal t) vs (omega arith) p in
        let w₂ = on w₁ call_width (sym r₀) (numbers t) ys (omega arith) q in
        on w₂ at (simp length-append (omega arith)) (columns ws) zs (omega arith) r

    -- and then byte 10
    pub line-ended : (vs : List ℕ) → Written v parts vs → set vs (at + number_width * length ws) newline ≡ printed (line_of t ws) v
    line-ended vs w =
        let r₀ = refusal-length t.refusal in
        let n₀ = numbers-length in
        let w₀ = columns-length ws in
        as_printed (byte w (at + number_width * length ws) (simp length-append (omega arith)) newline (omega arith))

-- ── the answer's line ──
module _ (a : Answer) (t : Told) (ws : List ℤ) (shown n : ℕ) (tells : Tells a t) (shows : Shows a ws shown n) where
  abbrev line : List ℕ
  line = ended (answer_line a (take shown ws))

  line_is : line ≡ line_of t (take n ws)
  line_is =
      let p : answer_line a (take shown ws) ≡ (refusal t ++ numbers t) ++ columns (take n ws) = in_parts a (take shown ws) ∙ rw (← tells.refusal, ← tells.numbers, ← shows.words) (sym (append_assoc (refusal t) (numbers t) (columns (take n ws)))) in
      ap ended p

  shown-length : length (take n ws) ≡ n
  shown-length = length-take-le n ws shows.few

  width : length line ≡ line_width t.count n
  width = ap length line_is ∙ line-length t (take n ws) (ap length tells.numbers ∙ sym tells.count) ∙ ap (line_width t.count) shown-length

  module _ (v : List ℕ) (fit : Bool) (e : fit ≡ leb (line_width t.count n) (length v)) where
    pub no_room_lem : fit ≡ false → (v ≡ printed line v) × (0 ≡ taken line v)
    unfolding printed taken
    no_room_lem h = let q : leb (length line) (length v) ≡ false = rw width (sym e ∙ h) in (rw q refl, rw q refl)

    pub room_is : fit ≡ true → line_width t.count (length (take n ws)) ≤ length v
    room_is h = rw shown-length (leb-true (line_width t.count n) (length v) (sym e ∙ h))

    pub line-printed : fit ≡ true → (vs : List ℕ) (r : ℕ) → vs ≡ printed (line_of t (take n ws)) v → r ≡ line_width t.count (length (take n ws)) → (vs ≡ printed line v) × (r ≡ taken line v)
    unfolding taken
    line-printed h vs r p q =
        let b : leb (length line) (length v) ≡ true = rw width (sym e ∙ h) in
        (p ∙ ap (λ (l : List ℕ). printed l v) (sym line_is), q ∙ rw b (ap (line_width t.count) shown-length ∙ sym width))

-- whoever lends so many bytes has room for every line
pub line_short : (a : Result answers.Answer Refusal) (ws : List ℤ) → length ws ≤ words_per_field * place_limit → length (ended (answer_line (view_answer a) ws)) ≤ longest
line_short a ws h =
    rw (in_parts (view_answer a) ws)
    (simp length-append
    (omega
    (arith, refusal-length (refusal_in (view_answer a)), columns-length (map pos (numbers_in (view_answer a))), columns-length (words_in (view_answer a) ws), length-map (numbers_in (view_answer a)) pos, numbers_few a, words_few (view_answer a) ws)))
