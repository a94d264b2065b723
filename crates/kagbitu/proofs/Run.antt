-- A run leads to the server that has taken all bytes read but the unused, and the promises of lines hold of it.
use mathlib.Core.Path.{◌≡◌, refl, sym, ◌∙◌, ap, subst}
use mathlib.Core.Bool.{true}
use mathlib.Core.List.{List, [], ◌++◌, ◌∷◌, append_assoc, append-nil}
use Prim.Native.Nat.{ℕ, suc, ◌+◌, ◌≤◌}
use native.Mathlib.Numerals.{add-one}
use lib.ListN.{length, take, drop, take-append-drop}
use Rattle.plant.specs.View.{view_plant}
use Rattle.line_server.specs.Fed.{kept_server, Fed, Finished}
use Rattle.line_server.specs.Input.{Taken, Takes, left, input, output}
use Rattle.line_server.specs.declared.Server.{Server}
use Rattle.line_server.proofs.Input.{input_served, input_meets, input_holds}
use Rattle.kagbitu.specs.Part.{unused, First, Rest}
use Rattle.kagbitu.specs.declared.part.Part.{Part}
use Rattle.kagbitu.specs.Run.{Run, starts, reads, feeds, SomeRun, RunLeads, RunServed, Started, Ended, Whole, AllServed}
use Rattle.kagbitu.proofs.Laws.{none_unused, first_unused, rest_unused}

-- ── one piece more ──
takes_more : (s : Server) (xs : List Taken) (x : Taken) → Takes s xs → Fed (left s xs) x.piece x.out x.server → Takes s (xs ++ (x ∷ []))
takes_more s [] x t f = (λ k. f, tt)
takes_more s (y ∷ xs) x t f = (t.0, takes_more y.server xs x t.1 f)

left_more : (s : Server) (xs : List Taken) (x : Taken) → left s (xs ++ (x ∷ [])) ≡ x.server
left_more s [] x = refl
left_more s (y ∷ xs) x = left_more y.server xs x

input_more : (xs : List Taken) (x : Taken) → input (xs ++ (x ∷ [])) ≡ input xs ++ take x.server.used x.piece
input_more [] x = append-nil _
input_more (y ∷ xs) x = ap (λ l. take y.server.used y.piece ++ l) (input_more xs x) ∙ sym (append_assoc (take y.server.used y.piece) (input xs) (take x.server.used x.piece))

output_more : (xs : List Taken) (x : Taken) → output (xs ++ (x ∷ [])) ≡ output xs ++ take x.server.wrote x.out
output_more [] x = append-nil _
output_more (y ∷ xs) x = ap (λ l. take y.server.wrote y.out ++ l) (output_more xs x) ∙ sym (append_assoc (take y.server.wrote y.out) (output xs) (take x.server.wrote x.out))

-- ── a run ──
pub run_leads : RunLeads
run_leads s n bytes answers t unused starts = record { pieces = []; takes = tt; leaves = refl; read = refl; told = refl }
run_leads s n bytes answers t unused (reads {n = m} {bytes = b} {answers = a} r buffer k h) =
    let l = run_leads s m b a t [] r in
    record { pieces = l.pieces; takes = l.takes; leaves = l.leaves; read = ap (λ i. i ++ take k buffer) (sym (append-nil (input l.pieces)) ∙ l.read); told = l.told }
run_leads s n bytes answers t unused (feeds {n = m} {bytes = b} {answers = a} {unused = v} {t = q} r out u h) =
    let l = run_leads s m b a q v r in
    let x : Taken = record { piece = v; out = out; server = u } in
    record {
      pieces = l.pieces ++ (x ∷ []);
      takes = takes_more s l.pieces x l.takes (subst (λ w. Fed w v out u) (sym l.leaves) h.fed);
      leaves = left_more s l.pieces x;
      read = ap (λ i. i ++ drop u.used v) (input_more l.pieces x) ∙ append_assoc (input l.pieces) (take u.used v) (drop u.used v) ∙ ap (λ i. input l.pieces ++ i) (take-append-drop u.used v) ∙ l.read;
      told = output_more l.pieces x ∙ ap (λ i. i ++ take u.wrote out) l.told;
    }

-- each turn keeps the rules
pub run_kept : (s : Server) (n : ℕ) (bytes answers : List ℕ) (t : Server) (unused : List ℕ) → kept_server s ≡ true → Run s n bytes answers t unused → kept_server t ≡ true
run_kept s n bytes answers t unused k starts = k
run_kept s n bytes answers t unused k (reads {n = m} {bytes = b} {answers = a} r buffer i h) = run_kept s m b a t [] k r
run_kept s n bytes answers t unused k (feeds r out u h) = h.fed.keeps

pub run_served : RunServed
run_served s st n bytes answers t r out u f =
    let l = run_leads s n bytes answers t [] r in
    let g = subst (λ w. kept_server w ≡ true → Finished w out u) (sym l.leaves) f in
    let eb : input l.pieces ≡ bytes = sym (append-nil (input l.pieces)) ∙ l.read in
    let w : Whole (input l.pieces) (output l.pieces ++ take u.wrote out) (view_plant u.plant) =
    record {
      serves = input_served s st.shows st.empty st.kept l.pieces l.takes out u g;
      meets = input_meets s st.shows st.empty st.kept l.pieces l.takes out u g;
      holds = input_holds s st.shows st.empty st.kept l.pieces l.takes out u g;
    } in
    subst (λ b. Whole b (answers ++ take u.wrote out) (view_plant u.plant)) eb
    (subst (λ a. Whole (input l.pieces) (a ++ take u.wrote out) (view_plant u.plant)) l.told w)

pub all_served : (t : Server) → Ended t → (out : List ℕ) (u : Server) → (kept_server t ≡ true → Finished t out u) → AllServed t out u.wrote
all_served t e out u f =
    record {
      ended = e;
      plant = view_plant u.plant;
      whole = run_served e.first e.started e.turns e.ran.bytes e.ran.answers t e.ran.run out u f;
    }

-- ── the turns of the loop ──
module _ (s : Server) (n : ℕ) where
  pub ran_none : (p : Part) (piece : List ℕ) → n ≡ 0 → p.at ≡ p.end → SomeRun s n s (unused p piece)
  ran_none p piece e h = subst (λ m. SomeRun s m s (unused p piece)) (sym e) (subst (SomeRun s 0 s) (sym (none_unused p piece h)) (record { bytes = []; answers = []; run = starts }))

  module _ (t : Server) (p : Part) (piece : List ℕ) (r : SomeRun s n t (unused p piece)) where
    -- nothing is unused, whatever the buffer holds
    pub ran_again : p.at ≡ p.end → (buffer : List ℕ) → SomeRun s n t (unused p buffer)
    ran_again h buffer = subst (SomeRun s n t) (none_unused p piece h ∙ sym (none_unused p buffer h)) r

    -- where the input ends, nothing is unused
    pub ran_all : p.at ≡ p.end → Started s → Ended t
    ran_all h st = record { first = s; started = st; turns = n; ran = subst (SomeRun s n t) (none_unused p piece h) r }

    module _ (m : ℕ) (e : m ≡ n + 1) where
      -- a turn that read the first k bytes of the buffer, where nothing was unused
      pub ran_read : p.at ≡ p.end → (buffer : List ℕ) (k : ℕ) → 1 ≤ k → k ≤ length buffer → (q : Part) → First k q → SomeRun s m t (unused q buffer)
      ran_read h buffer k o w q f =
          let r' = subst (SomeRun s n t) (none_unused p piece h) r in
          subst (λ i. SomeRun s i t (unused q buffer)) (sym (e ∙ add-one n))
          (subst (SomeRun s (suc n) t) (sym (first_unused k q buffer f)) (record { bytes = r'.bytes ++ take k buffer; answers = r'.answers; run = reads r'.run buffer k (record { some = o; within = w }) }))

      -- a turn that fed what was unused
      pub ran_fed : kept_server s ≡ true → (out : List ℕ) (u : Server) → (kept_server t ≡ true → Fed t (unused p piece) out u) → (1 ≤ u.used) → u.used ≤ length (unused p piece)
          → (q : Part) → Rest u.used p q → SomeRun s m u (unused q piece)
      ran_fed k out u f o w q h =
          let fed = f (run_kept s n r.bytes r.answers t (unused p piece) k r.run) in
          subst (λ i. SomeRun s i u (unused q piece)) (sym (e ∙ add-one n))
          (subst (SomeRun s (suc n) u) (sym (rest_unused u.used p q piece h)) (record { bytes = r.bytes; answers = r.answers ++ take u.wrote out; run = feeds r.run out u (record { fed = fed; some = o; within = w }) }))
