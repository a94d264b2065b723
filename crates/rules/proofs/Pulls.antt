-- A recalled lot leaves the tally whole: what a pull makes of a list, and that a lot which was withdrawn stays out until a change puts it back.
use Prim.Native.Nat.{ℕ}
use mathlib.Core.Path.{◌∙◌, ◌≡◌, ap, refl, subst, sym}
use mathlib.Core.Bool.{◌&&◌, false, true, true≢false}
use mathlib.Core.Option.{none}
use mathlib.Core.List.{List, [], ◌++◌, ◌∷◌}
use lib.ListN.{length}
use lib.Dec.{leb}
use lib.IntN.{◌+ℤ◌, pos, ℤ}
use Rattle.rules.specs.Lists.{any}
use Rattle.rules.specs.Limits.{member_limit, change_limit}
use Rattle.rules.specs.Values.{fits32, eq_z, nat_of, Place, same_place, Field, absent, number, list, Stock}
use Rattle.rules.specs.Changes.{Kind, set, unset, inc, add, push, pull, kind_number, Update, becomes, member, pull_all, put_last, change, outcome_refusal, field_of, meets, updated, field_after, run, follow, is_none, place_of}
use Rattle.rules.specs.Reading.{current, seen}
use Rattle.rules.specs.Calls.{Call, Load, Map, Begin, Read, Change, Commit, Abandon, Advance, Take, Apply, Delete, Cut, Sweep, Store, Report, Answer, refused, fine}
use Rattle.rules.specs.Conditions.{own, conditions}
use Rattle.rules.specs.Effects.{loaded, changed}
use Rattle.rules.specs.Step.{accepted, step}
use Rattle.rules.specs.History.{changes_of, History, whole, note, note_answer, Turn, World, turn, turns, initial, empty_history, exchanges}
use Rattle.rules.specs.Pulls.{Without, OneWithout, Pulls, PullsAll, LoadPulls, ChangePulls, Lacks, is_put, puts, Withdrawn, load_in, load_by, loads_of, ReadsLack, StoreLacks}
use borrow.Author.Tests.{leb-false}
use Rattle.rules.proofs.Laws.{by_case, self, both, not_met, run_append, follow_append}
use Rattle.rules.proofs.Steps.{step-fine, fine-none}
use Rattle.rules.proofs.KeptTest.{eq_z_is, eq_z-refl}
use Rattle.rules.proofs.Slots.{has_slot_lem}
use Rattle.rules.proofs.Answered.{changed_count}

-- ── equal and unequal numbers, by their test ──
unequal : (w v : ℤ) → eq_z w v ≡ false → w ≡ v → ⊥
unequal w v e h = true≢false (sym (subst (λ z. eq_z w z ≡ true) h (eq_z-refl w)) ∙ e)

-- ── one pull ──
without_all : (v : ℤ) (l : List ℤ) → Without v l (pull_all v l)
without_all v [] = refl
without_all v (w ∷ l) =
    by_case (eq_z w v)
    (λ t. rw t (λ h. without_all v l, λ n. absurd (n (eq_z_is w v t))))
    (λ t. rw t (λ h. absurd (unequal w v t h), λ n. (pull_all v l, refl, without_all v l)))

pub one_without_lem : OneWithout
one_without_lem v [] m n a b = a ∙ sym b
one_without_lem v (w ∷ l) m n a b =
    by_case (eq_z w v)
    (λ t. let e = eq_z_is w v t in one_without_lem v l m n (a.0 e) (b.0 e))
    (λ t. let x = a.1 (unequal w v t) in
    let y = b.1 (unequal w v t) in
    x.1 ∙ ap (λ z. w ∷ z) (one_without_lem v l x.0 y.0 x.2 y.2) ∙ sym y.1)

pub pulls_all_lem : PullsAll
unfolding change
pulls_all_lem v absent = refl
pulls_all_lem v (number a) = refl
pulls_all_lem v (list l) = (pull_all v l, refl, without_all v l)

same_place_lem : (q : Place) → same_place q q ≡ true
same_place_lem q = both _ _ (self q.document) (self q.field)

-- a pull at a place where it is not refused
pulled_at : (q : Place) (v : ℤ) (f : Field) → meets (record { at = q; kind = pull; value = v }) f ≡ none → Pulls v f (becomes (field_after q f (record { at = q; kind = pull; value = v })))
unfolding field_after updated field_of change meets outcome_refusal
pulled_at q v absent e = rw (same_place_lem q) refl
pulled_at q v (number a) e = absurd (true≢false (sym (ap is_none e)))
pulled_at q v (list l) e = (pull_all v l, rw (same_place_lem q) refl, without_all v l)

pub load_pulls_lem : LoadPulls
unfolding accepted loaded conditions
load_pulls_lem d f v lent p ns e =
    let c = Load d f (pos (kind_number pull)) v in
    let m = fine-none c lent p ns e in
    subst (λ o. Pulls v (p.store (place_of d f)) (becomes (o.plant.store (place_of d f)))) (sym (step-fine c lent p m))
    (pulled_at (place_of d f) v (p.store (place_of d f)) m.1.1.1.0)

pub change_pulls_lem : ChangePulls
unfolding accepted conditions changed
change_pulls_lem s d f v lent p ns e =
    let c = Change s d f (pos (kind_number pull)) v in
    let m = fine-none c lent p ns e in
    let x : Update = record { at = place_of d f; kind = pull; value = v } in
    let few = leb-false change_limit (length (own s p)) (not_met _ _ m.1.1.1.0) in
    let slot = has_slot_lem (nat_of s) p.slots (not_met _ _ m.1.1.0) in
    subst (λ o. Pulls v (seen p (own s p) (place_of d f)) (becomes (seen o.plant (own s o.plant) (place_of d f)))) (sym (step-fine c lent p m))
    (subst (λ cs. Pulls v (seen p (own s p) (place_of d f)) (becomes (seen p cs (place_of d f)))) (sym (changed_count (nat_of s) x p few slot))
    (subst (λ g. Pulls v (seen p (own s p) (place_of d f)) (becomes g)) (sym (run_append (own s p) (x ∷ []) (place_of d f) (current p (place_of d f))))
    (pulled_at (place_of d f) v (seen p (own s p) (place_of d f)) m.1.1.1.1.1.1.0)))

-- ── a lot that is out stays out ──
lacks_kept : (u v : ℤ) (l : List ℤ) → member v l ≡ false → member v (pull_all u l) ≡ false
unfolding member
lacks_kept u v [] h = refl
lacks_kept u v (w ∷ l) h =
    by_case (eq_z w v) (λ t. absurd (true≢false (rw t at h)))
    (λ t. by_case (eq_z w u) (λ s. rw s (lacks_kept u v l (rw t at h))) (λ s. rw (s, t) (lacks_kept u v l (rw t at h))))

lacks_pulled : (v : ℤ) (l : List ℤ) → member v (pull_all v l) ≡ false
unfolding member
lacks_pulled v [] = refl
lacks_pulled v (w ∷ l) = by_case (eq_z w v) (λ t. rw t (lacks_pulled v l)) (λ t. rw (t, t) (lacks_pulled v l))

lacks_last : (u v : ℤ) (l : List ℤ) → eq_z u v ≡ false → member v l ≡ false → member v (l ++ (u ∷ [])) ≡ false
unfolding member
lacks_last u v [] e h = rw e refl
lacks_last u v (w ∷ l) e h = by_case (eq_z w v) (λ t. absurd (true≢false (rw t at h))) (λ t. rw t (lacks_last u v l e (rw t at h)))

lacks_put : (u v : ℤ) (l : List ℤ) → eq_z u v ≡ false → member v l ≡ false → Lacks v (field_of (put_last u l) (list l))
unfolding put_last field_of
lacks_put u v l e h = by_case (leb member_limit (length l)) (λ t. rw t h) (λ t. rw t (lacks_last u v l e h))

lacks_change : (k : Kind) (u v : ℤ) (f : Field) → (is_put k && eq_z u v) ≡ false → Lacks v f → Lacks v (field_of (change k u f) f)
unfolding change field_of member
lacks_change set u v f e h = tt
lacks_change unset u v f e h = tt
lacks_change inc u v absent e h = tt
lacks_change inc u v (number a) e h = by_case (fits32 (a +ℤ u)) (λ t. rw t tt) (λ t. rw t tt)
lacks_change inc u v (list l) e h = h
lacks_change add u v absent e h = rw e refl
lacks_change add u v (number a) e h = tt
lacks_change add u v (list l) e h = by_case (member u l) (λ t. rw t h) (λ t. rw t (lacks_put u v l e h))
lacks_change push u v absent e h = rw e refl
lacks_change push u v (number a) e h = tt
lacks_change push u v (list l) e h = lacks_put u v l e h
lacks_change pull u v absent e h = tt
lacks_change pull u v (number a) e h = tt
lacks_change pull u v (list l) e h = lacks_kept u v l h

lacks_run : (q : Place) (v : ℤ) (cs : List Update) (f : Field) → any (puts q v) cs ≡ false → Lacks v f → Lacks v (run cs q f)
unfolding field_after updated
lacks_run q v [] f e h = h
lacks_run q v (c ∷ cs) f e h =
    by_case (same_place q c.at)
    (λ t. by_case (is_put c.kind && eq_z c.value v)
    (λ u. absurd (true≢false (rw (t, u) at e)))
    (λ u. rw t (lacks_run q v cs (updated c f) (rw (t, u) at e) (lacks_change c.kind c.value v f u h))))
    (λ t. rw t (lacks_run q v cs f (rw t at e) h))

-- out by the pull itself
lacks_after : (q : Place) (v : ℤ) (f : Field) → Lacks v (field_after q f (record { at = q; kind = pull; value = v }))
unfolding field_after updated field_of change
lacks_after q v absent = rw (same_place_lem q) tt
lacks_after q v (number a) = rw (same_place_lem q) tt
lacks_after q v (list l) = rw (same_place_lem q) (lacks_pulled v l)

pub stays_out : (s : Stock) (q : Place) (v : ℤ) (cs : List Update) → Withdrawn q v cs → Lacks v (follow s cs q)
stays_out s q v cs w =
    let c : Update = record { at = q; kind = pull; value = v } in
    subst (Lacks v) (sym (ap (λ l. follow s l q) w.pulled ∙ run_append w.before (c ∷ w.later) q (s q)))
    (lacks_run q v w.later _ w.not_put (lacks_after q v (run w.before q (s q))))

-- ── the starting stock is what the loads make of an empty one ──
note_start : (c : Call) (ns : List ℕ) (ws : List ℤ) (h : History) → (note c ns ws h).start ≡ follow h.start (load_in c)
unfolding note
note_start (Load d f k v) ns ws h = refl
note_start (Map k n m) ns ws h = refl
note_start Begin ns ws h = refl
note_start (Read s k) ns ws h = refl
note_start (Change s d f k v) ns ws h = refl
note_start (Commit s) ns ws h = refl
note_start (Abandon s) ns ws h = refl
note_start (Advance n) ns ws h = refl
note_start (Take w) ns ws h = refl
note_start (Apply w fate) ns ws h = refl
note_start (Delete w) ns ws h = refl
note_start (Cut w) ns ws h = refl
note_start Sweep ns ws h = refl
note_start (Store n) ns ws h = refl
note_start (Report s) ns ws h = refl

answer_start : (c : Call) (a : Answer) (ws : List ℤ) (h : History) → (note_answer c a ws h).start ≡ follow h.start (load_by c a)
answer_start c (refused r) ws h = refl
answer_start c (fine ns) ws h = note_start c ns ws h

loads_start : (ts : List Turn) (w : World) → (turns ts w).history.start ≡ follow w.history.start (loads_of (exchanges ts w.plant))
loads_start [] w = refl
loads_start (t ∷ ts) w =
    let o = step t.call t.lent w.plant in
    loads_start ts (turn t w)
    ∙ ap (λ s. follow s (loads_of (exchanges ts o.plant))) (answer_start t.call o.answer o.words w.history)
    ∙ sym (follow_append w.history.start (load_by t.call o.answer) (loads_of (exchanges ts o.plant)))

-- a stock that follows the starting one follows the loads
from_loads : (ts : List Turn) (cs : List Update) → follow (turns ts initial).history.start cs ≡ follow (λ q. absent) (loads_of (exchanges ts initial.plant) ++ cs)
unfolding initial empty_history
from_loads ts cs = ap (λ s. follow s cs) (loads_start ts initial) ∙ sym (follow_append (λ q. absent) (loads_of (exchanges ts initial.plant)) cs)

pub reads_lack_lem : ReadsLack
reads_lack_lem ts s q v w =
    let h = (turns ts initial).history in
    subst (λ z. Lacks v (z q))
    (sym (sym (follow_append h.start (whole h.commits) (changes_of (h.page (nat_of s)))) ∙ from_loads ts (whole h.commits ++ changes_of (h.page (nat_of s)))))
    (stays_out (λ q. absent) q v _ w)

pub store_lacks_lem : StoreLacks
store_lacks_lem ts part q v w = subst (λ z. Lacks v (z q)) (sym (part.stock ∙ from_loads ts (whole part.done))) (stays_out (λ q. absent) q v _ w)
