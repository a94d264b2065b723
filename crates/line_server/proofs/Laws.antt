-- What a server is made of: what it keeps, and the pieces of a piece.
use Prim.Native.Nat.{ℕ, suc, zero, ◌≤◌, ◌<◌, ◌+◌, ◌-◌}
use native.Mathlib.Omega.{arith}
use mathlib.Core.Path.{◌≡◌, refl, sym, ◌∙◌, ap, subst}
use mathlib.Core.Bool.{Bool, true, false, not, ◌&&◌, true≢false}
use mathlib.Core.List.{List, [], ◌++◌, ◌∷◌, append-nil}
use lib.ListN.{length, take, drop, length-take}
use lib.Dec.{leb}
use lib.Seq.{length-take-le, take_all, drop-drop}
use borrow.Author.Tests.{le-leb, leb-true}
use Rattle.rules.specs.Lists.{is_empty}
use Rattle.rules.proofs.Laws.{by_case, and_true, nil_is}
use Rattle.line_format.specs.Bytes.{newline, line_limit}
use Rattle.line_format.specs.Lines.{said}
use Rattle.line_format.specs.Serving.{Serves}
use Rattle.line_format.specs.Feeding.{has_end, complete, unended, last_line, Feeds}
use Rattle.line_format.proofs.Short.{short}
use Rattle.line_format.proofs.Cutting.{complete_none, unended_all, end_complete, end_unended}
use Rattle.line_format.proofs.Feeding.{feeds_append}
use Rattle.line_print.specs.Line.{longest}
use Rattle.plant.specs.View.{view_plant, kept_plant}
use Rattle.plant.specs.declared.Plant.{Plant}
use Rattle.line_pending.specs.View.{view_pending, pending_form, between}
use Rattle.line_pending.specs.declared.Pending.{Pending}
use Rattle.line_parse.specs.View.{view_said}
use Rattle.std.specs.Prelude.{Result}
use Rattle.calls.specs.declared.Call.{Call}
use Rattle.answers.specs.declared.Refusal.{Refusal}
use Rattle.line_server.specs.Fed.{kept_server, Within, Past, Next, Fed, Finished, Untouched, FormKept}
use Rattle.line_server.specs.declared.Server.{Server}
use Rattle.line_server.proofs.Gathering.{take-between}

pub kept_start : (p : Plant) (t : Pending) (n m : ℕ) → kept_plant p ≡ true → view_pending t ≡ [] → kept_server (record { plant = p; pending = t; used = n; wrote = m }) ≡ true
unfolding kept_server
kept_start p t n m k e = rw (k, e) refl

-- the server as the loop holds it
abbrev pub at : Plant → Pending → ℕ → ℕ → Server
at p kept used wrote = record { plant = p; pending = kept; used = used; wrote = wrote }

-- ── the line ──
pub kept_fits : (t : Pending) → pending_form t ≡ true → length t.line ≡ line_limit → t.len ≤ length t.line
unfolding pending_form
kept_fits t f l = omega (arith, l, leb-true t.len line_limit f)

pub kept_count : (t : Pending) → pending_form t ≡ true → length t.line ≡ line_limit → t.len ≡ length (take t.len t.line)
kept_count t f l = sym (length-take-le t.len t.line (kept_fits t f l))

module _ (kept : Pending) (piece : List ℕ) (from to : ℕ) (x : Result Call Refusal) where
  pub all_in_piece : kept.len ≡ 0 → view_said x ≡ said (between from to piece) → view_said x ≡ said (view_pending kept ++ between from to piece)
  unfolding view_pending
  all_in_piece e h = rw e h

  pub kept_and_piece : (whole : Pending) → view_pending whole ≡ take line_limit (view_pending kept ++ between from to piece) → view_said x ≡ said (take whole.len whole.line)
      → view_said x ≡ said (view_pending kept ++ between from to piece)
  unfolding view_pending
  kept_and_piece whole e h = h ∙ (ap said e ∙ short (view_pending kept ++ between from to piece))

-- ── a kept server ──
pub record Kept (s : Server) : Type 0 where
  pub plant : kept_plant s.plant ≡ true
  pub free : has_end (view_pending s.pending) ≡ false
  pub short : length (view_pending s.pending) ≤ line_limit

pub opened : (s : Server) → kept_server s ≡ true → Kept s
unfolding kept_server
opened s k =
    let v = view_pending s.pending in
    let x = and_true (kept_plant s.plant) (not (has_end v) && leb (length v) line_limit) k in
    let y = and_true (not (has_end v)) (leb (length v) line_limit) x.1 in
    record { plant = x.0; free = by_case (has_end v) (λ t. absurd (true≢false (sym (rw t at y).0))) (λ t. t); short = leb-true (length v) line_limit y.1 }

pub closed : (s : Server) → Kept s → kept_server s ≡ true
unfolding kept_server
closed s k = rw (k.plant, k.free, le-leb (length (view_pending s.pending)) line_limit k.short) refl

pub short-take : (l : List ℕ) → length (take line_limit l) ≤ line_limit
short-take l = simp length-take (omega arith)

-- ── the pieces of a piece ──
-- what a server used and filled before is no matter
unused : (s : Server) → kept_server s ≡ true → kept_server (record { plant = s.plant; pending = s.pending; used = 0; wrote = 0 }) ≡ true
unused s k = let o = opened s k in closed (record { plant = s.plant; pending = s.pending; used = 0; wrote = 0 }) (record { plant = o.plant; free = o.free; short = o.short })

pub record Feeding (piece lent : List ℕ) (s : Server) (out : List ℕ) (t : Server) : Type 0 where
  pub long : length out ≡ length lent
  pub within : Within t piece lent
  pub begun : t.used ≡ 0 → t.wrote ≡ 0
  pub past : kept_server s ≡ true → Past t lent out
  pub fed : kept_server s ≡ true → Fed s piece out t
  pub short : length lent < longest → Untouched s lent out t
  pub form : FormKept s t

-- nothing of a piece is used yet
pub nothing_fed : (s : Server) → kept_server s ≡ true → Feeds (view_pending s.pending) (view_plant s.plant) [] [] (view_pending s.pending) (view_plant s.plant)
nothing_fed s k =
    let o = opened s k in
    let v = view_pending s.pending in
    let p = view_plant s.plant in
    record {
      serves = subst (λ ls. Serves ls p [] p) (sym (ap complete (append-nil v) ∙ complete_none v o.free)) refl;
      keeps = sym (ap (λ l. take line_limit (unended l)) (append-nil v) ∙ ap (take line_limit) (unended_all v o.free) ∙ take_all line_limit v o.short);
    }

pub feed_start : (p : Plant) (kept : Pending) (piece lent : List ℕ)
    → Feeding piece lent (record { plant = p; pending = kept; used = 0; wrote = 0 }) lent (record { plant = p; pending = kept; used = 0; wrote = 0 })
feed_start p kept piece lent =
    record {
      long = refl;
      within = (omega arith, omega arith);
      begun = λ e. refl;
      past = λ k. refl;
      fed = λ k. record { feeds = nothing_fed (record { plant = p; pending = kept; used = 0; wrote = 0 }) k; keeps = k };
      short = λ h. record { plant = refl; pending = refl; used = refl; wrote = refl; bytes = refl };
      form = record { plant = λ g. g; pending = λ g. g };
    }

drop_further : (a b : ℕ) (l m : List ℕ) → a ≤ b → drop a l ≡ drop a m → drop b l ≡ drop b m
drop_further a b l m h e =
    let n : a + (b - a) ≡ b = omega (arith, h) in
    ap (λ i. drop i l) (sym n) ∙ sym (drop-drop (b - a) a l) ∙ ap (drop (b - a)) e ∙ drop-drop (b - a) a m ∙ ap (λ i. drop i m) n

pub feed_next : (piece lent out out' : List ℕ) (s t r : Server) → Feeding piece lent s out t → length out' ≡ length out
    → (kept_server t ≡ true → Next t piece out out' r) → Within r piece out → t.used < r.used → longest ≤ length out → FormKept t r → Feeding piece lent s out' r
feed_next piece lent out out' s t r f l n w u room g =
    let e = f.long in
    record {
      long = l ∙ e;
      within = (w.0, rw (← e) w.1);
      begun = λ z. absurd (omega (arith, u, z));
      past = λ k. let y = n (f.fed k).keeps in y.past ∙ drop_further t.wrote r.wrote out lent y.upwards.1 (f.past k);
      fed = λ k.
          let x = f.fed k in
          let y = n x.keeps in
          record {
            feeds =
                rw (take-between t.used r.used piece y.upwards.0, take-between t.wrote r.wrote out' y.upwards.1, y.before)
                (feeds_append (view_pending s.pending) (take t.used piece) (between t.used r.used piece) (take t.wrote out) (between t.wrote r.wrote out') (view_pending t.pending) (view_pending r.pending) (view_plant s.plant) (view_plant t.plant) (view_plant r.plant) x.feeds y.feeds);
            keeps = y.keeps;
          };
      short = λ h. absurd (omega (arith, h, room, e));
      form = record { plant = λ k. g.plant (f.form.plant k); pending = λ k. g.pending (f.form.pending k) };
    }

-- the server that a piece was taken from began with nothing used; where there is room for an answer more, all of the piece is used
pub feed_end : (s : Server) (piece lent out : List ℕ) (t : Server) → Feeding piece lent (record { plant = s.plant; pending = s.pending; used = 0; wrote = 0 }) out t
    → (t.wrote + longest ≤ length lent → t.used ≡ length piece) → (longest ≤ length lent → t.used ≡ 0 → length piece ≡ 0)
    → (kept_server s ≡ true → Fed s piece out t) × (Within t piece lent × ((t.wrote + longest ≤ length lent → t.used ≡ length piece) × ((longest ≤ length lent → t.used ≡ 0 → length piece ≡ 0) × ((kept_server s ≡ true → Past t lent out) × ((length lent < longest → Untouched s lent out t) × FormKept s t)))))
feed_end s piece lent out t f all some = (
  λ k. let x = f.fed (unused s k) in record { feeds = x.feeds; keeps = x.keeps },
  (f.within, (all, (some, (λ k. f.past (unused s k), (λ h. let x = f.short h in record { plant = x.plant; pending = x.pending; used = x.used; wrote = x.wrote; bytes = x.bytes }, record { plant = f.form.plant; pending = f.form.pending }))))),
)

-- ── the end of input ──
-- a number that is not 0 is 1 or more
pub some_of : (n : ℕ) → (n ≡ 0 → ⊥) → 0 < n
some_of zero h = absurd (h refl)
some_of (suc n) h = omega arith

module _ (s : Server) (e : Bool) (ee : e ≡ is_empty (view_pending s.pending)) where
  pub no_last : e ≡ true → (lent : List ℕ) → (longest ≤ length lent → kept_server s ≡ true → Finished s lent (record { plant = s.plant; pending = s.pending; used = 0; wrote = 0 }))
  no_last t lent r k =
      let none : view_pending s.pending ≡ [] = nil_is (view_pending s.pending) (sym ee ∙ t) in
      record {
        serves = rw (← ee, t) refl;
        ends = none;
        keeps = unused s k;
      }

  -- the line that byte 10 would have ended
  pub last_line_lem : e ≡ false → (lent out : List ℕ) (t : Server) → (kept_server s ≡ true → Fed s (newline ∷ []) out t) → Within t (newline ∷ []) lent → (longest ≤ length lent → t.used ≡ 0 → ◌≡◌ {A = ℕ} 1 0)
      → longest ≤ length lent → kept_server s ≡ true → Finished s out t
  last_line_lem h lent out t f w some r k =
      let x = f k in
      let v = view_pending s.pending in
      let all : take t.used (newline ∷ []) ≡ newline ∷ [] = take_all t.used (newline ∷ []) (some_of t.used (λ z. let e = some r z in omega (arith, e))) in
      let one : complete (v ++ take t.used (newline ∷ [])) ≡ v ∷ [] = ap (λ l. complete (v ++ l)) all ∙ end_complete v [] (opened s k).free refl [] ∙ ap (λ l. l ∷ []) (append-nil v) in
      let last : last_line v ≡ v ∷ [] = rw (← ee, h) refl in
      let none : take line_limit (unended (v ++ take t.used (newline ∷ []))) ≡ [] = ap (λ l. take line_limit (unended (v ++ l))) all ∙ ap (take line_limit) (end_unended v [] (opened s k).free refl []) in
      record { serves = subst (λ ls. Serves ls (view_plant s.plant) (take t.wrote out) (view_plant t.plant)) (one ∙ sym last) x.feeds.serves; ends = x.feeds.keeps ∙ none; keeps = x.keeps }
