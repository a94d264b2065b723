-- Demands 1 and 2 of the code: a plant in form is the only one that is seen so, so what the rules claim of the plant seen holds of the struct.
use mathlib.Core.Path.{◌≡◌, refl, sym, ◌∙◌, ap, subst}
use mathlib.Core.Bool.{true, false, true≢false}
use mathlib.Core.List.{List}
use lib.IntN.{ℤ}
use Rattle.rules.specs.Values.{nat_of}
use Rattle.rules.specs.Refusals as R
use Rattle.rules.specs.Refusals.{Refusal}
use Rattle.rules.specs.Tables as M
use Rattle.rules.specs.Calls as C
use Rattle.rules.specs.Kept.{kept}
use Rattle.rules.specs.Step.{step}
use Rattle.rules.specs.History.{World}
use Rattle.rules.specs.Claims as K
use Rattle.rules.specs.Claims.{ShownBy}
use Rattle.rules.proofs.Laws.{and_true}
use Rattle.rules.proofs.Steps.{refusals_leave_lem, three_ends_lem, four_ends_lem}
use Rattle.rules.proofs.Sessionless.{spares_sessions_lem}
use Rattle.rules.proofs.Frames.{commit_leaves_store_lem}
use Rattle.rules.proofs.Demand2.{reads_show_lem as of-rules}
use Rattle.store.proofs.Unique.{store_unique}
use Rattle.rows.proofs.Unique.{rows_unique}
use Rattle.plant.specs.View.{view_plant, plant_form, kept_plant}
use Rattle.plant.specs.With.{with_sessions}
use Rattle.plant.specs.declared.Plant.{Plant}
use Rattle.plant.proofs.Formed.{Formed, form_parts, form_with_sessions}
use Rattle.plant.proofs.Unique.{plant_unique}
use Rattle.calls.specs.View.{view_call}
use Rattle.calls.specs.declared.Call.{Call}
use Rattle.calls.specs.declared.Call.TheVariants.{Load, Map, Begin, Read, Change, Commit, Abandon, Advance, Take, Apply, Delete, Cut, Sweep, Store, Report}
use Rattle.entry_parts.specs.Session.{has_session}
use Rattle.entry.specs.Demands.{Unchanged, Ends, Never, EndsSession, Demand1, ReadsShow, CommitLeavesStore, Demand2}
use Rattle.entry.specs.Demand3.{turns_of}
use Rattle.entry.proofs.Demand3.{from_setup}

form_of : (p : Plant) → kept_plant p ≡ true → plant_form p ≡ true
unfolding kept_plant
form_of p k = (and_true (plant_form p) (kept (view_plant p)) k).0

parts_of : (p : Plant) → kept_plant p ≡ true → Formed p
parts_of p k = form_parts p (form_of p k)

-- ── demand 1 ──
unchanged : Unchanged
unchanged c r n m lent p a ws q k x e =
    let s = refusals_leave_lem (view_call c) lent (view_plant p) r (sym x.answers ∙ e) n m in
    (plant_unique q p (form_of q x.keeps) (form_of p k) (x.leaves ∙ ap (λ z. z.plant) s), x.fills ∙ ap (λ z. z.words) s)

-- a plant that is seen as another but for its sessions is that one but for its sessions
but_sessions : (p q : Plant) → kept_plant p ≡ true → kept_plant q ≡ true → (l : List M.Slot) → view_plant q ≡ M.with_slots l (view_plant p) → q ≡ with_sessions p q.sessions
unfolding view_plant
but_sessions p q k h l e =
    plant_unique q (with_sessions p q.sessions) (form_of q h)
    (form_with_sessions p q.sessions (λ x. (parts_of q h).sessions) (form_of p k))
    (e ∙ ap (λ (s : List M.Slot). M.with_slots s (view_plant p)) (sym (ap (λ (z : M.Plant). z.slots) e)))

ends : (r : Refusal) (c : Call) (s : ℤ) → K.Ends r (view_call c) s → Ends r c s
unfolding view_plant
ends r c s h lent p a ws q k x e =
    let z = h lent (view_plant p) (sym x.answers ∙ e) in
    let v : view_plant q ≡ M.with_slots (M.freed (nat_of s) (view_plant p).slots) (view_plant p) = x.leaves ∙ ap (λ y. y.plant) z in
    record { others = but_sessions p q k x.keeps _ v; sessions = ap (λ (y : M.Plant). y.slots) v; memory = x.fills ∙ ap (λ y. y.words) z }

-- ── calls without a session ──
no_session_lem : (c : Call) → has_session c ≡ false → K.Spares (view_call c)
no_session_lem (Load d f k v) h = spares_sessions_lem.load d f k v
no_session_lem (Map k n d1 f1 d2 f2 d3 f3 d4 f4) h = spares_sessions_lem.map k n _
no_session_lem Begin h = spares_sessions_lem.begin
no_session_lem (Read s k) h = absurd (true≢false h)
no_session_lem (Change s d f k v) h = absurd (true≢false h)
no_session_lem (Commit s) h = absurd (true≢false h)
no_session_lem (Abandon s) h = absurd (true≢false h)
no_session_lem (Advance n) h = spares_sessions_lem.advance n
no_session_lem (Take w) h = spares_sessions_lem.take w
no_session_lem (Apply w f) h = spares_sessions_lem.apply w f
no_session_lem (Delete w) h = spares_sessions_lem.delete w
no_session_lem (Cut w) h = spares_sessions_lem.cut w
no_session_lem Sweep h = spares_sessions_lem.sweep
no_session_lem (Store n) h = spares_sessions_lem.store n
no_session_lem (Report s) h = absurd (true≢false h)

never_three : Never R.was_doomed
never_three c h lent p a ws q k x e = (no_session_lem c h lent (view_plant p) R.was_doomed (sym x.answers ∙ e)).0 refl

never_four : Never R.exclusive_elsewhere
never_four c h lent p a ws q k x e = (no_session_lem c h lent (view_plant p) R.exclusive_elsewhere (sym x.answers ∙ e)).1 refl

ends_session_lem : (r : Refusal) → Never r → K.EndsSession r → EndsSession r
ends_session_lem r n h =
    record {
      read = λ s k. ends r (Read s k) s (h.read s k);
      change = λ s d f k v. ends r (Change s d f k v) s (h.change s d f k v);
      commit = λ s. ends r (Commit s) s (h.commit s);
      abandon = λ s. ends r (Abandon s) s (h.abandon s);
      report = λ s. ends r (Report s) s (h.report s);
      others = n;
    }

pub demand1 : Demand1
demand1 = record { unchanged = unchanged; three_ends = ends_session_lem R.was_doomed never_three three_ends_lem; four_ends = ends_session_lem R.exclusive_elsewhere never_four four_ends_lem }

-- ── demand 2 ──
reads_show_lem : ReadsShow
reads_show_lem p start k es rs s y lent a ws q x ns e =
    let l = from_setup p es start k rs in
    let Shows : World → Type 0 = λ v. (step (C.Read s y) lent v.plant).answer ≡ C.fine ns → (step (C.Read s y) lent v.plant).words ≡ ShownBy v.history s y lent in
    x.fills ∙ subst Shows l.ends (of-rules (turns_of es) s y lent ns) (sym x.answers ∙ e)

leaves_store : CommitLeavesStore
unfolding view_plant
leaves_store s lent p a ws q k x =
    let h = commit_leaves_store_lem s lent (view_plant p) in
    let f = parts_of p k in
    let g = parts_of q x.keeps in (
      store_unique q.store p.store g.store f.store (ap (λ (y : M.Plant). y.store) x.leaves ∙ h.0),
      rows_unique q.rows p.rows g.rows f.rows (ap (λ (y : M.Plant). y.rows) x.leaves ∙ h.1),
    )

pub demand2 : Demand2
demand2 = record { reads_show = reads_show_lem; commit_leaves_store = leaves_store }
