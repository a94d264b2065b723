-- The lines of a piece joined to the format: what is answered to them is what the format serves, whether their calls are run as a list, or a line says none.
use Prim.Native.Nat.{ℕ, ◌≤◌, ◌<◌, ◌+◌, ◌-◌, ◌*◌}
use native.Mathlib.Omega.{arith}
use mathlib.Core.Path.{◌≡◌, refl, sym, ◌∙◌, ap, subst}
use mathlib.Core.Bool.{true, false}
use mathlib.Core.List.{List, [], ◌++◌, ◌∷◌, append_assoc, append-nil}
use lib.IntN.{ℤ}
use lib.ListN.{length, take, drop, length-append, length-drop, take-append-drop}
use lib.Seq.{length-take-le, take_all, take_at, drop_at}
use Rattle.line_format.specs.Bytes.{newline, line_limit}
use Rattle.line_format.specs.Lines.{said, says, faulty}
use Rattle.line_format.specs.Lines as L
use Rattle.line_format.specs.Serving.{Serves, performed, serve}
use Rattle.line_format.specs.Feeding.{has_end, unended, Feeds}
use Rattle.line_format.proofs.Cutting.{more_complete, more_unended, end_complete, end_unended}
use Rattle.line_format.proofs.Feeding.{feeds_free, feeds_append}
use Rattle.line_print.specs.Line.{longest}
use Rattle.plant.specs.View.{view_plant, plant_form, kept_plant}
use Rattle.plant.specs.declared.Plant.{Plant}
use Rattle.answers.specs.View.{view_refusal}
use Rattle.answers.specs.declared.Refusal.{Refusal}
use Rattle.calls.specs.View.{view_call, view_calls, list_limit}
use Rattle.calls.specs.declared.Calls.{Calls}
use Rattle.calls.specs.declared.Call.{Call}
use Rattle.entry.specs.declared.Told.{Told}
use Rattle.entry.specs.RanAll.{RanAll}
use Rattle.entry.proofs.RunAll.{ran_kept, ran_form, few_calls}
use Rattle.line_pending.specs.View.{view_pending, pending_form, between, end_from}
use Rattle.line_pending.specs.declared.Pending.{Pending}
use Rattle.line_parse.specs.View.{view_said}
use Rattle.std.specs.Prelude.{Ok, Err}
use Rattle.line_answer.specs.Answered.{Answered, Put, line_words, told_line, told_lines, refused_line}
use Rattle.line_answer.proofs.Laws.{told, refused, put_more, room_after, written, room_long, more_wrote}
use Rattle.line_server.specs.Fed.{kept_server, Next}
use Rattle.line_server.specs.declared.Server.{Server}
use Rattle.line_server.proofs.Gathering.{Lines, Gathering, with_last, gather_start, gather_call, no_calls, calls_some, line_inside, line_free, line_ends}
use Rattle.line_server.proofs.Laws.{at, opened, closed, short-take, Feeding, feed_next}

-- ── lines ──
-- what is kept of a line: no byte 10, and no more bytes than need be
abbrev Begun : List ℕ → Type 0
Begun u = (has_end u ≡ false) × (length u ≤ line_limit)

line_fed : (u l bs : List ℕ) (x : L.Said) (p q : Plant) → has_end u ≡ false → has_end l ≡ false → said (u ++ l) ≡ x → Answered x p bs q → Feeds u (view_plant p) (l ++ (newline ∷ [])) bs [] (view_plant q)
unfolding serve
line_fed u l bs x p q fu fl es a =
    record {
      serves = rw (end_complete u l fu fl [], a.prints, a.leaves, es, append-nil (performed x (view_plant p)).bytes) refl;
      keeps = sym (ap (take line_limit) (end_unended u l fu fl []));
    }

-- bytes of a line that is not ended, of which the first are kept
rest_fed : (u l v : List ℕ) (p : Plant) → Begun u → has_end l ≡ false → v ≡ take line_limit (u ++ l) → Feeds u (view_plant p) l [] v (view_plant p)
rest_fed u l v p b free e =
    record {
      serves = subst (λ ls. Serves ls (view_plant p) [] (view_plant p)) (sym (more_complete u l b.0 free)) refl;
      keeps = e ∙ ap (take line_limit) (sym (more_unended u l b.0 free));
    }

none_fed : (u : List ℕ) (p : Plant) → Begun u → Feeds u (view_plant p) [] [] u (view_plant p)
none_fed u p b = rest_fed u [] u p b refl (sym (ap (take line_limit) (append-nil u) ∙ take_all line_limit u b.1))

-- lines that say calls
lines_fed : (u bs : List ℕ) (cs : List Call) (v : List ℕ) (ts : List Told) (lent words : List ℤ) (p q : Plant) → line_words * length cs ≤ length lent → Begun u → kept_plant p ≡ true → Lines u bs cs v → RanAll line_words p cs ts lent words q → Feeds u (view_plant p) bs (told_lines ts words) v (view_plant q)
lines_fed u bs [] v [] lent words p q n b k (eb, ev) r = rw (eb, ev, r.0) (none_fed u p b)
lines_fed u bs [] v (t ∷ ts) lent words p q n b k f r = absurd r
lines_fed u bs (c ∷ cs) v [] lent words p q n b k f r = absurd r
lines_fed u bs (c ∷ cs) v (t ∷ ts) lent words p q n b k (l, (rest, (eb, (fl, (es, h))))) (m, (e, r)) =
    let own = take line_words words in
    let a = told c (take line_words lent) p t own m (length-take-le line_words lent (omega (arith, n))) e k in
    rw (eb, ← append_assoc l (newline ∷ []) rest)
    (feeds_append u (l ++ (newline ∷ [])) rest (told_line t own) (told_lines ts (drop line_words words)) [] v (view_plant p) (view_plant m) (view_plant q) (line_fed u l (told_line t own) (says (view_call c)) p m b.0 fl es a)
    (lines_fed [] rest cs v ts (drop line_words lent) (drop line_words words) m q (simp length-drop (omega (arith, n))) (refl, omega arith) a.keeps h r))

-- ── a part of a piece ──
-- up to a position, to which these bytes are answered
module _ (piece lent : List ℕ) (s : Server) (out : List ℕ) (p : Plant) (first : Pending) (from wrote : ℕ) (f : Feeding piece lent s out (at p first from wrote))
    (q : Plant) (kept : Pending) (used : ℕ) (further : from < used) (inside : used ≤ length piece) (space : longest ≤ length out) (bytes : List ℕ)
    (fed : Begun (view_pending first) → kept_plant p ≡ true → Feeds (view_pending first) (view_plant p) (between from used piece) bytes (view_pending kept) (view_plant q))
    (keeps : kept_plant p ≡ true → kept_plant q ≡ true) (form : (plant_form p ≡ true → plant_form q ≡ true) × (pending_form first ≡ true → pending_form kept ≡ true)) where
  abbrev t : Server
  t = at p first from wrote

  some_wrote : wrote ≤ length out
  some_wrote = let w = f.within.1 in omega (arith, w, f.long)

  taken_long : length (take wrote out) ≡ wrote
  taken_long = length-take-le wrote out some_wrote

  is_next : (after : List ℕ) (len most : ℕ) → Put most (take wrote out ++ bytes) out after (wrote + len) → kept_server t ≡ true → Next t piece out after (at q kept used (wrote + len))
  is_next after len most x k =
      let o = opened t k in
      let g = fed (o.free, o.short) o.plant in
      let parts : after ≡ take wrote out ++ (bytes ++ drop (wrote + len) out) = x.prints ∙ append_assoc (take wrote out) bytes (drop (wrote + len) out) in
      let n : wrote + len - wrote ≡ length bytes = omega (arith, x.counts, length-append (take wrote out) bytes, taken_long) in
      let told : between wrote (wrote + len) after ≡ bytes = ap (λ m. take m (drop wrote after)) n ∙ ap (take (length bytes)) (ap (drop wrote) parts ∙ drop_at (take wrote out) (bytes ++ drop (wrote + len) out) wrote taken_long) ∙ take_at bytes (drop (wrote + len) out) (length bytes) refl in
      record {
        feeds = rw told g;
        before = ap (take wrote) parts ∙ take_at (take wrote out) (bytes ++ drop (wrote + len) out) wrote taken_long;
        past = ap (drop (wrote + len)) x.prints ∙ drop_at (take wrote out ++ bytes) (drop (wrote + len) out) (wrote + len) (sym x.counts);
        upwards = (omega (arith, further), omega arith);
        keeps = closed (at q kept used (wrote + len)) (record {
          plant = keeps o.plant;
          free = feeds_free (view_pending first) (between from used piece) bytes (view_pending kept) (view_plant p) (view_plant q) g;
          short = rw g.keeps (short-take (unended (view_pending first ++ between from used piece)));
        });
      }

  -- they are printed
  part_fed : (most : ℕ) → most ≤ length out - wrote → (part : List ℕ) (len : ℕ) → (most ≤ length (room_after wrote out) → Put most bytes (room_after wrote out) part len) → len ≤ length (room_after wrote out)
      → length (written wrote out part) ≡ length out → Feeding piece lent s (written wrote out part) (at q kept used (wrote + len))
  part_fed most enough part len h w l =
      let start : Put wrote (take wrote out) out out wrote = record { prints = sym (take-append-drop wrote out); counts = sym taken_long; few = omega arith } in
      let x = put_more out out (take wrote out) wrote wrote most start bytes part len (h (omega (arith, room_long wrote out, enough))) in
      feed_next piece lent out (written wrote out part) s t (at q kept used (wrote + len)) f l (is_next (written wrote out part) len (wrote + most) x) (inside, more_wrote wrote out len some_wrote w) further space (record { plant = form.0; pending = form.1 })

  -- there are none
  part_silent : bytes ≡ [] → Feeding piece lent s out (at q kept used wrote)
  part_silent e =
      let z : wrote + 0 ≡ wrote = omega arith in
      let none : take wrote out ++ bytes ≡ take wrote out = ap (λ b. take wrote out ++ b) e ∙ append-nil (take wrote out) in
      let x : Put wrote (take wrote out ++ bytes) out out (wrote + 0) = rw (z, none) (record { prints = sym (take-append-drop wrote out); counts = sym taken_long; few = omega arith }) in
      subst (λ n. Feeding piece lent s out (at q kept used n)) z
      (feed_next piece lent out out s t (at q kept used (wrote + 0)) f refl (is_next out 0 wrote x) (inside, omega (arith, some_wrote)) further space (record { plant = form.0; pending = form.1 }))

-- ── the loop ──
-- the piece is served up to the first line of the list, and its calls are those of the lines since; there are words for as many calls as there may be
pub record Serving (piece lent : List ℕ) (s : Server) (out : List ℕ) (p : Plant) (calls : Calls) (kept : Pending) (used wrote left : ℕ) (words : List ℤ) : Type 0 where
  pub first : Pending
  pub from : ℕ
  pub fed : Feeding piece lent s out (at p first from wrote)
  pub list : Gathering first piece from (length out - wrote) calls kept used left
  pub enough : length words ≡ line_words * list_limit

pub serve_start : (piece lent : List ℕ) (s : Server) (out : List ℕ) (p : Plant) (kept : Pending) (used wrote : ℕ) → Feeding piece lent s out (at p kept used wrote)
    → (calls : Calls) → length calls.items ≡ list_limit → calls.count ≡ 0 → (left : ℕ) → left ≡ length out - wrote → (words : List ℤ) → length words ≡ line_words * list_limit → Serving piece lent s out p calls kept used wrote left words
serve_start piece lent s out p kept used wrote f calls l z left e words n = record { first = kept; from = used; fed = f; list = rw e (gather_start kept piece used (length out - wrote) calls l z f.within.0); enough = n }

module _ (piece lent : List ℕ) (s : Server) (out : List ℕ) (p : Plant) (calls : Calls) (kept : Pending) (used wrote left : ℕ) (words : List ℤ) (x : Serving piece lent s out p calls kept used wrote left words) where
  -- where the list is empty all is served
  pub all_served : calls.count ≡ 0 → Feeding piece lent s out (at p kept used wrote)
  all_served z = let n = x.list.none z in rw (n.0, n.1) x.fed

  pub wrote_within : wrote ≤ length out
  wrote_within = let f = x.fed in omega (arith, f.within.1, f.long)

  pub room_all : calls.count ≡ 0 → left ≡ length out - wrote
  room_all z = let e = ap length (no_calls calls z) in omega (arith, x.list.spent, e)

  pub room_left : left ≤ length out - wrote
  room_left = omega (arith, x.list.spent)

  -- one line more says a call
  pub serve_call : (end : ℕ) (ee : end ≡ end_from used piece) (more : used < length piece) → end < length piece → longest ≤ left → (empty : Pending) → view_pending empty ≡ [] → pending_form empty ≡ true
      → (c : Call) → view_said (Ok c) ≡ said (view_pending kept ++ between used end piece) → calls.count < list_limit → Serving piece lent s out p (with_last calls c) empty (end + 1) wrote (left - longest) words
  serve_call end ee more found space empty ek fk c h n =
      record { first = x.first; from = x.from; fed = x.fed; list = gather_call piece used end ee more x.first x.from (length out - wrote) calls kept left x.list found space empty ek fk c h n; enough = x.enough }

  -- ── it is run ──
  pub serve_run : 0 < calls.count → (ts : List Told) (after : List ℤ) (q : Plant) → RanAll line_words p (view_calls calls) ts words after q → (n : ℕ) → n ≡ length (view_calls calls) → (part : List ℕ) (len : ℕ)
      → (longest * n ≤ length (room_after wrote out) → Put (longest * n) (told_lines ts after) (room_after wrote out) part len) → len ≤ length (room_after wrote out) → length (written wrote out part) ≡ length out
      → Feeding piece lent s (written wrote out part) (at q kept used (wrote + len))
  serve_run some ts after q ran n en part len h w l =
      let g = x.list in
      part_fed piece lent s out p x.first x.from wrote x.fed q kept used (g.some some) g.inside (omega (arith, g.spent, calls_some calls g.entries some)) (told_lines ts after)
      (λ b k. lines_fed (view_pending x.first) (between x.from used piece) (view_calls calls) (view_pending kept) ts words after p q (omega (arith, x.enough, few_calls calls g.entries)) b k g.lines ran)
      (ran_kept line_words p (view_calls calls) ts words after q ran) (ran_form line_words p (view_calls calls) ts words after q ran, g.form) (longest * n) (omega (arith, en, g.spent)) part len h w l

  -- ── a line that says no call, and the rest of a piece, where it is empty ──
  module _ (z : calls.count ≡ 0) (space : longest ≤ left) (end : ℕ) (ee : end ≡ end_from used piece) (more : used < length piece) (next : Pending) where
    pub serve_fault : end < length piece → view_pending next ≡ [] → pending_form next ≡ true → (r : Refusal) → view_said (Err r) ≡ said (view_pending kept ++ between used end piece) → (part : List ℕ) (len : ℕ)
        → (longest ≤ length (room_after wrote out) → Put longest (refused_line r) (room_after wrote out) part len) → len ≤ length (room_after wrote out) → length (written wrote out part) ≡ length out
        → Feeding piece lent s (written wrote out part) (at p next (end + 1) (wrote + len))
    serve_fault found en fn r h part len y w l =
        let i = line_inside piece used end ee more in
        part_fed piece lent s out p kept used wrote (all_served z) p next (end + 1) (omega (arith, i.0)) (omega (arith, found)) (omega (arith, space, room_left)) (refused_line r)
        (λ b k. rw (line_ends piece used end ee more found, en) (line_fed (view_pending kept) (between used end piece) (refused_line r) (faulty (view_refusal r)) p p b.0 (line_free piece used end ee more) (sym h) (refused r p k)))
        (λ k. k) (λ k. k, λ k. fn) longest (omega (arith, space, room_left)) part len y w l

    pub serve_rest : length piece ≤ end → view_pending next ≡ take line_limit (view_pending kept ++ between used end piece) → pending_form next ≡ true → Feeding piece lent s out (at p next end wrote)
    serve_rest none en fn =
        let i = line_inside piece used end ee more in
        part_silent piece lent s out p kept used wrote (all_served z) p next end (omega (arith, more, none)) i.1 (omega (arith, space, room_left)) []
        (λ b k. rest_fed (view_pending kept) (between used end piece) (view_pending next) p b (line_free piece used end ee more) en) (λ k. k) (λ k. k, λ k. fn) refl
