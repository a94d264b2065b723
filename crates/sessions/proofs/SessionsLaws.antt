-- The table of sessions through its view: one law for each way out of a method.
use Prim.Native.Nat.{ℕ, ◌+◌, ◌≤◌, ◌<◌, min}
use native.Mathlib.Omega.{arith}
use mathlib.Core.Path.{◌≡◌, refl, sym, ◌∙◌, ap, fun_ext}
use mathlib.Core.Bool.{Bool, true, false, cond, ◌||◌}
use mathlib.Core.List.{List, [], ◌∷◌, ◌++◌, map, map-id}
use lib.Dec.{ltb}
use lib.ListN.{length, get_or, set, take, drop, length-set, length-map, get_or-append}
use Rattle.std.proofs.lemmas.List.{set-append_left}
use borrow.Author.Tests.{le-leb, lt-leb}
use Rattle.rules.specs.Limits.{document_count}
use Rattle.rules.specs.Lists.{any, pushed}
use Rattle.rules.specs.Tables as M
use Rattle.rules.specs.Effects.{opened, first_doomed, room, loses, is_lost}
use Rattle.rules.proofs.Laws.{or_zero_lem}
use Rattle.lists.specs.Find.{fold}
use Rattle.lists.specs.Table.{counted}
use Rattle.lists.proofs.Views.{Remaking, counted-few, counted_full}
use Rattle.lists.proofs.Ends.{remake_here, remake_done}
use Rattle.lists.proofs.Iterators.{counted_taken}
use Rattle.lists.proofs.Forms.{form_empty, used_at}
use Rattle.lists.proofs.Remake.{form_set}
use Rattle.docset.specs.Sets.{docs}
use Rattle.docset.proofs.SetLaws.{docs_none}
use Rattle.changes.specs.declared.Update.{Update}
use Rattle.changes.specs.View.{view_update}
use Rattle.sessions.specs.declared.session.Session.{Session}
use Rattle.sessions.specs.session.View.{view_slot, grant_at}
use Rattle.sessions.specs.session.Form.{session_form, is_unused}
use Rattle.sessions.proofs.session.FormLaws.{unused_parts}
use Rattle.sessions.specs.declared.Sessions.{Sessions}
use Rattle.sessions.specs.View.{view_sessions}
use Rattle.sessions.specs.Form.{sessions_form}

pub none_shown : (l : List Session) → view_sessions (record { count = 0; slots = l }) ≡ []
unfolding view_sessions counted
none_shown l = refl

pub none_form : (s : Session) → is_unused s ≡ true → sessions_form (record { count = 0; slots = s ∷ s ∷ s ∷ s ∷ s ∷ s ∷ s ∷ s ∷ [] }) ≡ true
unfolding sessions_form
none_form s e = form_empty 8 session_form is_unused s e

pub unused_form : (s : Session) → is_unused s ≡ true → session_form s ≡ true
unused_form s e = (unused_parts s e).1.form

-- an entry in use is in form
slot_form : (t : Sessions) (i : ℕ) (d : Session) → i < t.count → sessions_form t ≡ true → session_form (get_or t.slots i d) ≡ true
unfolding sessions_form
slot_form t i d h f = used_at 8 session_form is_unused t.count t.slots i d h f

pub len_is : (t : Sessions) {ys : List Session} → ys ≡ take t.count t.slots → length ys ≡ length (view_sessions t)
unfolding view_sessions
len_is t {ys} e = rw (counted_taken view_slot t.count t.slots, ← e) (sym (length-map ys view_slot))

-- ── room ──
module _ (t : Sessions) (l : length t.slots ≡ 8) where
  pub room_there : t.count < 8 → view_sessions t ≡ room (view_sessions t)
  unfolding view_sessions
  room_there h = rw (lt-leb 8 (length (counted view_slot t.count t.slots)) (omega (arith, counted-few view_slot t.count t.slots 8 l h)))

  pub room_made : (n : ℕ) (r : Sessions) → 8 ≤ t.count → n ≡ first_doomed (view_sessions t) → view_sessions r ≡ M.freed n (view_sessions t) → view_sessions r ≡ room (view_sessions t)
  unfolding view_sessions
  room_made n r h p q =
      q ∙ ap (λ (m : ℕ). M.freed m (view_sessions t)) p
      ∙ sym (rw (le-leb 8 (length (counted view_slot t.count t.slots)) (omega (arith, counted_full view_slot t.count t.slots 8 l h))))

pub begun_is : (t u r : Sessions) (s : Session) (n clock : ℕ) → view_sessions u ≡ room (view_sessions t) → view_slot s ≡ opened n clock → view_sessions r ≡ pushed 8 (view_sessions u) (view_slot s) → view_sessions r ≡ pushed 8 (room (view_sessions t)) (opened n clock)
begun_is t u r s n clock p q e = e ∙ ap (λ (l : List M.Slot). pushed 8 l (view_slot s)) p ∙ ap (pushed 8 (room (view_sessions t))) q

-- ── every slot in use made anew, in place: the first m slots of t are lent, and are now vs; F is what the form needs ──
abbrev pub given : Sessions → ℕ → List Session → Sessions
given t m vs = record { count = t.count; slots = vs ++ drop m t.slots }

pub record Making (F : Type 0) (g : M.Slot → M.Slot) (t : Sessions) (m : ℕ) (vs : List Session) (i : ℕ) : Type 0 where
  pub end : m ≡ min t.count 8
  pub long : length vs ≡ m
  pub slots : Remaking view_slot g t.slots 8 (vs ++ drop m t.slots) i
  pub form : F → sessions_form (given t m vs) ≡ true

module _ {F : Type 0} {g : M.Slot → M.Slot} {t : Sessions} {m : ℕ} {vs : List Session} {i : ℕ} (inv : Making F g t m vs i) where
  pub make_next : (d s : Session) → i < length vs → view_slot s ≡ g (view_slot (get_or vs i d)) → (F → session_form (get_or vs i d) ≡ true → session_form s ≡ true) → Making F g t m (set vs i s) (i + 1)
  unfolding sessions_form
  make_next d s h e f =
      let q = set-append_left vs (drop m t.slots) i s h in
      let o : get_or (vs ++ drop m t.slots) i d ≡ get_or vs i d = get_or-append vs (drop m t.slots) d i h in
      let k : i < t.count = omega (arith, inv.end, inv.long) in
      record {
        end = inv.end;
        long = length-set vs i s ∙ inv.long;
        slots = rw q at (remake_here inv.slots d {r = s} (omega (arith, inv.end, inv.long)) (rw o e));
        form = λ a. rw q at (form_set 8 session_form is_unused t.count (vs ++ drop m t.slots) i s k (f a (rw o at (slot_form (given t m vs) i d k (inv.form a)))) (inv.form a));
      }

  pub make_end : {rest : List Session} → length vs ≤ i → rest ≡ drop m t.slots → view_sessions (record { count = t.count; slots = vs ++ rest }) ≡ map g (view_sessions t)
  unfolding view_sessions
  make_end h e = rw e (remake_done inv.slots t.count (omega (arith, inv.end, inv.long)))

-- a test that is the same for each is one for all
each_if : (b : Bool) (g : M.Slot → M.Slot) (l : List M.Slot) → map (λ s. cond b (g s) s) l ≡ cond b (map g l) l
each_if true g l = refl
each_if false g l = map-id l

unfoldable pub granted : ℕ → ℕ → Update → M.Slot → M.Slot
granted now n c s = cond (ltb c.place.document document_count) (M.remade (grant_at now n (view_update c)) s) s

pub granted_all : (now n : ℕ) (c : Update) (t r : Sessions) → view_sessions r ≡ map (granted now n c) (view_sessions t)
    → view_sessions r ≡ cond (ltb c.place.document document_count) (M.each (grant_at now n (view_update c)) (view_sessions t)) (view_sessions t)
unfolding granted
granted_all now n c t r e = e ∙ each_if (ltb c.place.document document_count) (M.remade (grant_at now n (view_update c))) (view_sessions t)

-- ── the sets of several gathered in one ──
or_cond : (a x y : Bool) → (a || x) || y ≡ a || cond x true y
or_cond true x y = refl
or_cond false true y = refl
or_cond false false y = refl

fold-any : {B : Type 0} (q : B → ℕ → Bool) (l : List B) (a : ℕ → Bool) → fold (λ a s. (λ d. a d || q s d)) a l ≡ (λ d. a d || any (λ s. q s d) l)
unfolding fold
fold-any q [] a = fun_ext (λ d. sym (or_zero_lem (a d)))
fold-any q (x ∷ l) a = fold-any q l (λ d. a d || q x d) ∙ fun_ext (λ d. or_cond (a d) (q x d) (any (λ s. q s d) l))

unfoldable pub gathered : ℕ → (ℕ → Bool) → M.Slot → ℕ → Bool
gathered clock a s = λ d. a d || loses clock s d

pub gather_is : (clock : ℕ) (t : Sessions) → is_lost clock (view_sessions t) ≡ fold (gathered clock) (docs 0) (counted view_slot t.count t.slots)
unfolding gathered is_lost view_sessions
gather_is clock t = sym (rw docs_none (fold-any (loses clock) (counted view_slot t.count t.slots) (λ d. false)))

pub gather_one : (clock a b r : ℕ) (s : Session) → docs b ≡ loses clock (view_slot s) → docs r ≡ (λ d. docs a d || docs b d) → docs r ≡ gathered clock (docs a) (view_slot s)
unfolding gathered
gather_one clock a b r s e f = f ∙ ap (λ (x : ℕ → Bool). (λ d. docs a d || x d)) e
