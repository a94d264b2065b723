-- The lines of a piece as the calls that they say, and the list that they go into.
use Prim.Native.Nat.{ℕ, ◌≤◌, ◌<◌, ◌+◌, ◌-◌, ◌*◌}
use native.Mathlib.Omega.{arith}
use mathlib.Core.Path.{◌≡◌, refl, sym, ◌∙◌, ap}
use mathlib.Core.Bool.{true, false}
use mathlib.Core.List.{List, [], ◌++◌, ◌∷◌, append_assoc}
use lib.ListN.{length, take, drop, set, length-append, length-drop, length-set}
use lib.Seq.{length-take-le, take-add, take-append-add, drop-drop}
use lib.Dec.{ltb}
use borrow.Author.Tests.{lt-ltb, ltb-true, ltb-false}
use Rattle.rules.proofs.Laws.{by_case}
use Rattle.rules.specs.Lists.{pushed}
use Rattle.lists.specs.Table.{counted}
use Rattle.lists.proofs.Views.{push_room, counted-few}
use Rattle.calls.specs.View.{view_call, view_calls, list_limit}
use Rattle.calls.specs.declared.Call.{Call}
use Rattle.calls.specs.declared.Calls.{Calls}
use Rattle.entry.proofs.RunAll.{counts}
use Rattle.line_format.specs.Bytes.{newline}
use Rattle.line_format.specs.Lines.{said, says}
use Rattle.line_format.specs.Feeding.{has_end}
use Rattle.line_print.specs.Line.{longest}
use Rattle.line_parse.specs.View.{view_said}
use Rattle.std.specs.Prelude.{Ok, Err}
use Rattle.line_pending.specs.View.{view_pending, pending_form, between, end_from}
use Rattle.line_pending.proofs.Ending.{end_at, end_within, end_front, end_found}
use Rattle.line_pending.specs.declared.Pending.{Pending}

-- ── parts of a piece ──
pub take-between : {A : Type 0} (a b : ℕ) (l : List A) → a ≤ b → take b l ≡ take a l ++ take (b - a) (drop a l)
take-between a b l h = let e : a + (b - a) ≡ b = omega (arith, h) in ap (λ n. take n l) (sym e) ∙ take-add a (b - a) l

between_on : (a b c : ℕ) (l : List ℕ) → a ≤ b → b ≤ c → between a c l ≡ between a b l ++ between b c l
between_on a b c l h k =
    let m : c - a - (b - a) ≡ c - b = omega (arith, h, k) in
    let n : a + (b - a) ≡ b = omega (arith, h) in
    take-between (b - a) (c - a) (drop a l) (omega (arith, h, k)) ∙ ap (λ r. between a b l ++ r) (ap (λ i. take i (drop (b - a) (drop a l))) m ∙ ap (take (c - b)) (drop-drop (b - a) a l ∙ ap (λ i. drop i l) n))

nothing_between : (n : ℕ) (l : List ℕ) → between n n l ≡ []
nothing_between n l = let e : n - n ≡ 0 = omega arith in rw e refl

-- up to byte 10, with it
ended_line : (from end : ℕ) (piece : List ℕ) → end ≡ end_from from piece → from ≤ length piece → end < length piece → between from (end + 1) piece ≡ between from end piece ++ (newline ∷ [])
ended_line from end piece ee w found =
    let f : end_from from piece < length piece = rw (← ee) found in
    let a : from ≤ end = rw ee (end_at from piece w) in
    let e : drop from piece ≡ between from end piece ++ (newline ∷ drop (end + 1) piece) = rw ee (end_found from piece f) in
    let l : length (between from end piece) ≡ end - from = length-take-le (end - from) (drop from piece) (simp length-drop (omega (arith, found))) in
    let n : end + 1 - from ≡ length (between from end piece) + 1 = omega (arith, l, a) in
    ap (λ m. take m (drop from piece)) n ∙ ap (take (length (between from end piece) + 1)) e ∙ take-append-add (between from end piece) (newline ∷ drop (end + 1) piece) 1

-- ── lines ──
-- bytes that come after u, which is kept of a line: they end the lines that say these calls, one after the other; then v is kept
abbrev pub Lines : List ℕ → List ℕ → List Call → List ℕ → Type 0
Lines u bytes [] v = (bytes ≡ []) × (v ≡ u)
Lines u bytes (c ∷ cs) v =
    (l : List ℕ) × ((rest : List ℕ) × ((bytes ≡ l ++ (newline ∷ rest)) × ((has_end l ≡ false) × ((said (u ++ l) ≡ says (view_call c)) × Lines [] rest cs v))))

-- one line more
line_more : (u bs : List ℕ) (cs : List Call) (v : List ℕ) → Lines u bs cs v → (l : List ℕ) (c : Call) → has_end l ≡ false → said (v ++ l) ≡ says (view_call c) → (w : List ℕ) → w ≡ []
    → Lines u (bs ++ (l ++ (newline ∷ []))) (cs ++ (c ∷ [])) w
line_more u bs [] v (e, f) l c free s w ew = (l, ([], (ap (λ b. b ++ (l ++ (newline ∷ []))) e, (free, (ap (λ x. said (x ++ l)) (sym f) ∙ s, (refl, ew))))))
line_more u bs (x ∷ cs) v (m, (rest, (e, (fm, (sm, h))))) l c free s w ew =
    (m, (rest ++ (l ++ (newline ∷ [])), (ap (λ b. b ++ (l ++ (newline ∷ []))) e ∙ append_assoc m (newline ∷ rest) (l ++ (newline ∷ [])), (fm, (sm, line_more [] rest cs v h l c free s w ew)))))

-- ── the list ──
-- one call more where there is room
abbrev pub with_last : Calls → Call → Calls
with_last calls c = record { items = set calls.items calls.count c; count = calls.count + 1 }

put_last_lem : (calls : Calls) (c : Call) → length calls.items ≡ list_limit → calls.count < list_limit → view_calls (with_last calls c) ≡ view_calls calls ++ (c ∷ [])
unfolding view_calls pushed
put_last_lem calls c l h =
    let n : length (view_calls calls) < list_limit = omega (arith, h, counted-few (λ (x : Call). x) calls.count calls.items list_limit l h) in
    push_room (λ (x : Call). x) calls.count calls.items list_limit c l h refl ∙ rw (lt-ltb (length (view_calls calls)) list_limit n) refl

pub calls_some : (calls : Calls) → length calls.items ≡ list_limit → 0 < calls.count → 0 < length (view_calls calls)
calls_some calls l h = omega (arith, h, counts calls l)

pub no_calls : (calls : Calls) → calls.count ≡ 0 → view_calls calls ≡ []
unfolding view_calls counted
no_calls calls e = rw e refl

-- the lines from one position up to another: what was kept before them and is now, and the room left for answers
pub record Gathering (first : Pending) (piece : List ℕ) (from room : ℕ) (calls : Calls) (kept : Pending) (used left : ℕ) : Type 0 where
  pub lines : Lines (view_pending first) (between from used piece) (view_calls calls) (view_pending kept)
  pub spent : left + longest * length (view_calls calls) ≡ room
  pub none : calls.count ≡ 0 → (kept ≡ first) × (used ≡ from)
  pub some : 0 < calls.count → from < used
  pub inside : used ≤ length piece
  pub entries : length calls.items ≡ list_limit
  pub few : calls.count ≤ list_limit
  pub form : pending_form first ≡ true → pending_form kept ≡ true

pub gather_start : (first : Pending) (piece : List ℕ) (from room : ℕ) (calls : Calls) → length calls.items ≡ list_limit → calls.count ≡ 0 → from ≤ length piece → Gathering first piece from room calls first from room
gather_start first piece from room calls l z w =
    let e = no_calls calls z in
    record {
      lines = rw e (nothing_between from piece, refl);
      spent = rw e (omega arith);
      none = λ h. (refl, refl);
      some = λ h. absurd (omega (arith, h, z));
      inside = w;
      entries = l;
      few = omega (arith, z);
      form = λ f. f;
    }

-- a line of a piece that ends in it
module _ (piece : List ℕ) (used end : ℕ) (ee : end ≡ end_from used piece) (more : used < length piece) where
  pub line_inside : (used ≤ end) × (end ≤ length piece)
  line_inside = (rw ee (end_at used piece (omega (arith, more))), rw ee (end_within used piece))

  pub line_free : has_end (between used end piece) ≡ false
  line_free = rw ee (end_front used piece)

  pub line_ends : end < length piece → between used (end + 1) piece ≡ between used end piece ++ (newline ∷ [])
  line_ends found = ended_line used end piece ee (omega (arith, more)) found

  -- one that says a call, which is put last
  pub gather_call : (first : Pending) (from room : ℕ) (calls : Calls) (kept : Pending) (left : ℕ) → Gathering first piece from room calls kept used left → end < length piece → longest ≤ left
      → (empty : Pending) → view_pending empty ≡ [] → pending_form empty ≡ true → (c : Call) → view_said (Ok c) ≡ said (view_pending kept ++ between used end piece) → calls.count < list_limit
      → Gathering first piece from room (with_last calls c) empty (end + 1) (left - longest)
  gather_call first from room calls kept left g found space empty ek fk c h n =
      let i = line_inside in
      let en = put_last_lem calls c g.entries n in
      let e : length (view_calls (with_last calls c)) ≡ length (view_calls calls) + 1 = rw en (length-append (view_calls calls) (c ∷ [])) in
      let a : from ≤ used = by_case (ltb 0 calls.count) (λ t. let s = g.some (ltb-true 0 calls.count t) in omega (arith, s)) (λ t. let z = (g.none (let y = ltb-false 0 calls.count t in omega (arith, y))).1 in omega (arith, z)) in
      record {
        lines = rw (en, between_on from used (end + 1) piece a (omega (arith, i.0)), line_ends found) (line_more (view_pending first) (between from used piece) (view_calls calls) (view_pending kept) g.lines (between used end piece) c line_free (sym h) (view_pending empty) ek);
        spent = omega (arith, g.spent, space, e);
        none = λ z. absurd (omega (arith, z));
        some = λ z. omega (arith, a, i.0);
        inside = omega (arith, found);
        entries = length-set calls.items calls.count c ∙ g.entries;
        few = omega (arith, n);
        form = λ f. fk;
      }
