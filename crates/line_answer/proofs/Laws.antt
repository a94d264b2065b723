-- What is printed of a call, and that it is what the format says.
use mathlib.Core.Path.{◌≡◌, refl, sym, ◌∙◌, ap, ap₂}
use mathlib.Core.Bool.{true, false}
use mathlib.Core.List.{List, [], ◌++◌, ◌∷◌, append_assoc, append-nil}
use Prim.Native.Nat.{ℕ, ◌*◌, ◌+◌, ◌-◌, ◌<◌, ◌≤◌, min}
use native.Mathlib.Omega.{arith}
use lib.Dec.{eqb, leb}
use lib.IntN.{ℤ}
use lib.ListN.{drop, drop_of_length-le, get_or, length, take, length-append, length-drop, length-take}
use lib.Seq.{drop_at, drop-drop, length-take-le, take_all, take_at, take-suc}
use native.Mathlib.Numerals.{add-one}
use borrow.Rule.Slice.PartMut.{put_mid, post_of}
use borrow.Author.Tests.{le-leb, leb-true, not-false}
use Rattle.rules.specs.Limits.{key_count, words_per_field}
use Rattle.rules.specs.Values.{below, Place}
use Rattle.rules.specs.Refusals.{out_of_range}
use Rattle.rules.specs.Step.{step}
use Rattle.rules.specs.Conditions.{conditions}
use Rattle.rules.specs.Calls as C
use Rattle.rules.proofs.Laws.{not_met, by_case}
use Rattle.calls.specs.View.{view_call}
use Rattle.calls.specs.declared.Call.{Call}
use Rattle.calls.specs.declared.Call.TheVariants.{Load, Map, Begin, Read, Change, Commit, Abandon, Advance, Take, Apply, Delete, Cut, Sweep, Store, Report}
use Rattle.line_format.specs.Lines.{says, faulty, answer_line}
use Rattle.line_format.specs.Serving.{lent_words, places_shown, ended, performed}
use Rattle.line_format.proofs.Words.{words_unseen}
use Rattle.plant.specs.View.{view_plant, kept_plant}
use Rattle.plant.specs.declared.Plant.{Plant}
use Rattle.answers.specs.View.{view_refusal, view_answer, is_refused}
use Rattle.answers.specs.declared.Refusal.{Refusal}
use Rattle.std.specs.Prelude.{Result}
use Rattle.answers.specs.declared.Answer.{Answer}
use Rattle.answers.specs.declared.Refusal.{Refusal}
use Rattle.line_print.specs.columns.Printed.{printed}
use Rattle.line_print.specs.Line.{longest, taken}
use Rattle.line_print.proofs.LineLaws.{line_short}
use Rattle.promises.proofs.Telling.{none_held}
use Rattle.entry.specs.Ran.{Ran}
use Rattle.entry.specs.RanAll.{Entered}
use Rattle.entry.specs.declared.Told.{Told}
use Rattle.lists.proofs.Parts.{next_is, part_is}
use Rattle.call_read_shown.proofs.Kept.{shown_count}
use Rattle.call_read.specs.Shows.{key_at}
use Rattle.entry.proofs.Filled.{own_unread}
use Rattle.arguments.specs.Numbers.{session_number}
use Rattle.plant.proofs.PlantLaws.{kept_parts}
use Rattle.line_answer.specs.Answered.{Answered, Put, line_words, told_line, told_lines, refused_line}

-- ── the answer's line ──
-- a line that fits is printed at the front
fits_printed : (bs lent : List ℕ) → length bs ≤ length lent → printed bs lent ≡ bs ++ drop (length bs) lent
unfolding printed
fits_printed bs lent h = rw (le-leb (length bs) (length lent) h) refl

fits_taken : (bs lent : List ℕ) → length bs ≤ length lent → taken bs lent ≡ length bs
unfolding taken
fits_taken bs lent h = rw (le-leb (length bs) (length lent) h) refl

pub within : (bs lent : List ℕ) (len : ℕ) → len ≡ taken bs lent → len ≤ length lent
unfolding taken
within bs lent len e =
    by_case (leb (length bs) (length lent)) (λ t. let n : len ≡ length bs = e ∙ rw t refl in omega (arith, n, leb-true (length bs) (length lent) t)) (λ t. let n : len ≡ 0 = e ∙ rw t refl in omega (arith, n))

-- where there is room for the longest line
module _ (bs lent out : List ℕ) (len : ℕ) (room : longest ≤ length lent) (short : length bs ≤ longest) (eo : out ≡ printed bs lent) (el : len ≡ taken bs lent) where
  counted : len ≡ length bs
  counted = el ∙ fits_taken bs lent (omega (arith, room, short))

  in_front : out ≡ bs ++ drop len lent
  in_front = eo ∙ fits_printed bs lent (omega (arith, room, short)) ∙ ap (λ n. bs ++ drop n lent) (sym counted)

-- ── the line printed, whichever the plant ──
pub lined : (a : Result Answer Refusal) (ws : List ℤ) (lent out : List ℕ) (len : ℕ) → length ws ≤ line_words
    → out ≡ printed (ended (answer_line (view_answer a) ws)) lent → len ≡ taken (ended (answer_line (view_answer a) ws)) lent → longest ≤ length lent → Put longest (ended (answer_line (view_answer a) ws)) lent out len
lined a ws lent out len lw eo el room =
    let short = line_short a ws (omega (arith, lw)) in
    let n = counted _ lent out len room short eo el in
    record { prints = in_front _ lent out len room short eo el; counts = n; few = omega (arith, n, short) }

pub few_words_lem : (n : ℕ) (ws : List ℤ) → length ws ≤ line_words → length (take n ws) ≤ line_words
few_words_lem n ws h = rw (length-take n ws) (omega (arith, h))

-- ── it is the format's ──
-- a refusal shows no words
same_line : (x : C.Answer) (n m : ℕ) (ws : List ℤ) → (is_refused x ≡ false → n ≡ m) → answer_line x (take n ws) ≡ answer_line x (take m ws)
unfolding answer_line
same_line (C.refused r) n m ws h = refl
same_line (C.fine ns) n m ws h = rw (h refl) refl

-- n words that are shown, if of a read they are eight for each place of its key; other calls show none
abbrev Shown : ℕ → (ℕ → List Place) → Call → Type 0
Shown n keys c = (eqb (C.call_number (view_call c)) 4 ≡ false → n ≡ 0) → ((s k : ℤ) → c ≡ Read s k → n ≡ words_per_field * places_shown (C.Read s k) keys) → n ≡ words_per_field * places_shown (view_call c) keys

shown : (n : ℕ) (keys : ℕ → List Place) (c : Call) → Shown n keys c
shown n keys (Load d f k v) none read = none refl
shown n keys (Map k m d1 f1 d2 f2 d3 f3 d4 f4) none read = none refl
shown n keys Begin none read = none refl
shown n keys (Read s k) none read = read s k refl
shown n keys (Change s d f k v) none read = none refl
shown n keys (Commit s) none read = none refl
shown n keys (Abandon s) none read = none refl
shown n keys (Advance t) none read = none refl
shown n keys (Take w) none read = none refl
shown n keys (Apply w f) none read = none refl
shown n keys (Delete w) none read = none refl
shown n keys (Cut w) none read = none refl
shown n keys Sweep none read = none refl
shown n keys (Store m) none read = none refl
shown n keys (Report s) none read = none refl

module _ (c : Call) (lent : List ℤ) (p : Plant) (t : Told) (words : List ℤ) (q : Plant) (l : length lent ≡ line_words) (e : Entered c lent p t words q) (h : kept_plant p ≡ true) where
  abbrev ran : Ran c lent p t.answer words q
  ran = e.runs h

  -- a read that is answered reads a key that there is
  key_is : (s k : ℤ) → c ≡ Read s k → is_refused (view_answer t.answer) ≡ false → below k key_count ≡ true
  unfolding conditions
  key_is s k ec r =
      let a : view_answer t.answer ≡ (step (C.Read s k) lent (view_plant p)).answer = ran.answers ∙ ap (λ x. (step (view_call x) lent (view_plant p)).answer) ec in
      not-false _ (not_met _ out_of_range (none_held (C.Read s k) lent (view_plant p) (view_answer t.answer) a r).0)

  -- as many words are shown as the format says
  shown_are : is_refused (view_answer t.answer) ≡ false → t.shown ≡ words_per_field * places_shown (view_call c) (view_plant p).keys
  shown_are r =
      shown t.shown (view_plant p).keys c (λ n. (e.leaves (own_unread (view_call c) n t.answer e.own)).1)
      (λ s k ec. (e.shows s k ec r).1 ∙ ap (λ i. words_per_field * i) (shown_count (view_plant p) (kept_parts p h) (session_number s) (key_at k) ∙ rw (key_is s k ec r) refl))

  told_is : told_line t words ≡ (performed (says (view_call c)) (view_plant p)).bytes
  told_is =
      ap ended (same_line (view_answer t.answer) t.shown _ words shown_are ∙ ap₂ (λ x ws. answer_line x (take (words_per_field * places_shown (view_call c) (view_plant p).keys) ws)) ran.answers ran.fills)
      ∙ ap (λ v. v.bytes) (words_unseen lent lent_words l (view_plant p) (view_call c))

  pub told : Answered (says (view_call c)) p (told_line t words) q
  told = record { prints = told_is; leaves = ran.leaves ∙ ap (λ v. v.plant) (words_unseen lent lent_words l (view_plant p) (view_call c)); keeps = ran.keeps }

-- a line that says no call
pub refused : (r : Refusal) (p : Plant) → kept_plant p ≡ true → Answered (faulty (view_refusal r)) p (refused_line r) p
refused r p h = record { prints = refl; leaves = refl; keeps = h }

-- by the bytes printed
pub put_front : (most : ℕ) (bytes lent out : List ℕ) (len : ℕ) → Put most bytes lent out len → take len out ≡ bytes
put_front most bytes lent out len x = ap (take len) x.prints ∙ take_at bytes (drop len lent) len (sym x.counts)

-- ── one after the other ──
-- the bytes after those filled, and all with a part written there
abbrev pub room_after : ℕ → List ℕ → List ℕ
room_after wrote out = take (length out - wrote) (drop wrote out)

abbrev pub written : ℕ → List ℕ → List ℕ → List ℕ
written wrote out part = put_mid wrote (length out - wrote) out part

room_is : (wrote : ℕ) (out : List ℕ) → room_after wrote out ≡ drop wrote out
room_is wrote out = let l : length (drop wrote out) ≤ length out - wrote = simp length-drop (omega arith) in take_all (length out - wrote) (drop wrote out) l

pub room_long : (wrote : ℕ) (out : List ℕ) → length (room_after wrote out) ≡ length out - wrote
room_long wrote out = ap length (room_is wrote out) ∙ length-drop wrote out

pub more_wrote : (wrote : ℕ) (out : List ℕ) (len : ℕ) → wrote ≤ length out → len ≤ length (room_after wrote out) → wrote + len ≤ length out
more_wrote wrote out len w l = omega (arith, l, w, room_long wrote out)

module _ (lent out bytes : List ℕ) (wrote : ℕ) where
  -- printed into the bytes after those filled
  pub put_more : (most more : ℕ) → Put most bytes lent out wrote → (line part : List ℕ) (len : ℕ) → Put more line (room_after wrote out) part len
      → Put (most + more) (bytes ++ line) lent (written wrote out part) (wrote + len)
  put_more most more x line part len y =
      let front = put_front most bytes lent out wrote x in
      let rest : drop wrote out ≡ drop wrote lent = ap (drop wrote) x.prints ∙ drop_at bytes (drop wrote lent) wrote (sym x.counts) in
      let none : post_of wrote (length out - wrote) out ≡ [] = drop_of_length-le (drop wrote out) {i = length out - wrote} (simp length-drop (omega arith)) in
      let now : part ≡ line ++ drop (wrote + len) lent = y.prints ∙ ap (λ l. line ++ drop len l) (room_is wrote out ∙ rest) ∙ ap (λ l. line ++ l) (drop-drop len wrote lent) in
      record {
        prints = ap (λ l. l ++ (part ++ post_of wrote (length out - wrote) out)) front ∙ ap (λ l. bytes ++ (part ++ l)) none ∙ ap (λ l. bytes ++ l) (append-nil part ∙ now) ∙ sym (append_assoc bytes line (drop (wrote + len) lent));
        counts = omega (arith, x.counts, y.counts, length-append bytes line);
        few = omega (arith, x.few, y.few);
      }

-- one more at the end, whose words come after those of the others
told_last : (ts : List Told) (t : Told) (words : List ℤ) → told_lines (ts ++ (t ∷ [])) words ≡ told_lines ts words ++ told_line t (take line_words (drop (line_words * length ts) words))
told_last [] t words = append-nil (told_line t (take line_words words))
told_last (x ∷ ts) t words =
    let m : line_words + line_words * length ts ≡ line_words * length (x ∷ ts) = omega arith in
    ap (λ l. told_line x (take line_words words) ++ l) (told_last ts t (drop line_words words))
    ∙ sym (append_assoc (told_line x (take line_words words)) (told_lines ts (drop line_words words)) (told_line t (take line_words (drop (line_words * length ts) (drop line_words words)))))
    ∙ ap (λ l. (told_line x (take line_words words) ++ told_lines ts (drop line_words words)) ++ told_line t (take line_words l)) (drop-drop (line_words * length ts) line_words words ∙ ap (λ k. drop k words) m)

-- the first i of those that are told, n if there are so many, with the words up to a position
pub record Telling (n : ℕ) (told : List Told) (words : List ℤ) (lent out : List ℕ) (wrote i at : ℕ) : Type 0 where
  pub long : length out ≡ length lent
  pub within : wrote ≤ length lent
  pub upto : i ≤ n
  pub among : i ≤ length told
  pub here : at ≡ min (line_words * i) (length words)
  pub put : longest * length (take n told) ≤ length lent → Put (longest * i) (told_lines (take i told) words) lent out wrote

pub tell_start : (n : ℕ) (told : List Told) (words : List ℤ) (lent : List ℕ) → Telling n told words lent lent 0 0 0
tell_start n told words lent = record { long = refl; within = omega arith; upto = omega arith; among = omega arith; here = omega arith; put = λ h. record { prints = refl; counts = refl; few = omega arith } }

module _ (n : ℕ) (told : List Told) (words : List ℤ) (lent out : List ℕ) (wrote i at : ℕ) (t : Telling n told words lent out wrote i at) where
  pub more_within : (len : ℕ) → len ≤ length (room_after wrote out) → wrote + len ≤ length lent
  more_within len l = omega (arith, more_wrote wrote out len (omega (arith, t.long, t.within)) l, t.long)

  module _ (next : ℕ) (en : next ≡ at + min line_words (length words - at)) where
    pub reach : next ≤ length words
    reach = omega (arith, next_is words (line_words * i) at t.here line_words next en)

    -- the words of the next one
    own_words : take (next - at) (drop at words) ≡ take line_words (drop (line_words * i) words)
    own_words = part_is words (line_words * i) at t.here line_words next en

    pub few_own : length (take (next - at) (drop at words)) ≤ line_words
    few_own = rw (own_words, length-take) (omega arith)

    pub tell_next : (d : Told) → i < n → i < length told → (part : List ℕ) (len : ℕ) → length (written wrote out part) ≡ length out → len ≤ length (room_after wrote out)
        → (longest ≤ length (room_after wrote out) → Put longest (told_line (get_or told i d) (take (next - at) (drop at words))) (room_after wrote out) part len) → Telling n told words lent (written wrote out part) (wrote + len) (i + 1) next
    tell_next d a b part len l w h =
        record {
          long = l ∙ t.long;
          within = more_within len w;
          upto = omega (arith, a);
          among = omega (arith, b);
          here = next_is words (line_words * i) at t.here line_words next en ∙ ap (λ k. min k (length words)) (omega arith);
          put = λ r.
              let x = t.put r in
              let k : i + 1 ≤ length (take n told) = simp length-take (omega (arith, a, b)) in
              let y = h (omega (arith, room_long wrote out, x.few, k, r, t.long)) in
              let o = get_or told i d in
              let es : take (i + 1) told ≡ take i told ++ (o ∷ []) = rw (add-one i) (take-suc told i d b) in
              let own : told_line o (take (next - at) (drop at words)) ≡ told_line o (take line_words (drop (line_words * length (take i told)) words)) = ap (told_line o) (own_words ∙ ap (λ j. take line_words (drop (line_words * j) words)) (sym (length-take-le i told t.among))) in
              let more : told_lines (take i told) words ++ told_line o (take (next - at) (drop at words)) ≡ told_lines (take (i + 1) told) words = ap (λ z. told_lines (take i told) words ++ z) own ∙ sym (told_last (take i told) o words) ∙ ap (λ z. told_lines z words) (sym es) in
              let z = put_more lent out (told_lines (take i told) words) wrote (longest * i) longest x (told_line o (take (next - at) (drop at words))) part len y in
              record { prints = z.prints ∙ ap (λ l. l ++ drop (wrote + len) lent) more; counts = z.counts ∙ ap length more; few = omega (arith, z.few) };
        }

  abbrev ToldAll : Type 0
  ToldAll = (wrote ≤ length lent) × (longest * length (take n told) ≤ length lent → Put (longest * length (take n told)) (told_lines (take n told) words) lent out wrote)

  ended_at : take i told ≡ take n told → i ≡ length (take n told) → ToldAll
  ended_at e l = (t.within, λ r. let x = t.put r in record { prints = rw (← e) x.prints; counts = rw (← e) x.counts; few = omega (arith, x.few, l) })

  pub tell_end : n ≤ i → ToldAll
  tell_end h = let e : i ≡ n = omega (arith, h, t.upto) in ended_at (ap (λ k. take k told) e) (e ∙ sym (length-take-le n told (omega (arith, e, t.among))))

  pub tell_past : length told ≤ i → ToldAll
  tell_past h =
      let all : take n told ≡ told = take_all n told (omega (arith, h, t.upto)) in
      ended_at (take_all i told h ∙ sym all) (rw all (omega (arith, h, t.among)))
