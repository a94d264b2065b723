-- A session through its view: one law for each way out of a method.
use Prim.Native.Nat.{ℕ, ◌+◌, ◌-◌, ◌<◌, ◌≤◌}
use native.Mathlib.Omega.{arith}
use mathlib.Core.Path.{◌≡◌, refl, sym, ◌∙◌, ap, fun_ext}
use mathlib.Core.Bool.{Bool, true, false, not, cond, ◌&&◌, ◌||◌, true≢false}
use mathlib.Core.List.{[], List, ◌∷◌}
use lib.Dec.{eqb, ltb}
use lib.ListN.{length, set}
use lib.Seq.{get_or-set_same, get_or-set_other}
use borrow.Author.Tests.{eq-eqb, ne_eqb, eqb-true, eqb-false, lt-ltb, le-ltb}
use Rattle.rules.specs.Limits.{document_count}
use Rattle.rules.specs.Lists.{all, override, pushed}
use Rattle.rules.specs.Values as S
use Rattle.rules.specs.Tables as M
use Rattle.rules.specs.Effects.{opened, document_in, or_shared, with_shared, to_exclusive, with_exclusive, with_last, grant, only_at}
use Rattle.rules.specs.Step.{count, held_shared, held_exclusive}
use Rattle.rules.proofs.Laws.{by_case, and_true, or_false, eqb-sym}
use Rattle.rules.proofs.Tests.{all_head, all_tail}
use Rattle.lists.specs.Find.{fold}
use Rattle.lists.proofs.Views.{either}
use Rattle.docset.specs.Sets.{docs}
use Rattle.docset.proofs.SetLaws.{docs_none}
use Rattle.keys.specs.declared.Place.{Place}
use Rattle.keys.specs.declared.Key.{Key}
use Rattle.keys.specs.View.{view_place, view_key}
use Rattle.changes.specs.declared.Update.{Update}
use Rattle.changes.specs.declared.Changes.{Changes}
use Rattle.changes.specs.View.{view_update, view_changes}
use Rattle.sessions.specs.declared.session.Session.{Session}
use Rattle.sessions.specs.session.View.{leases, ticks, view_session, view_slot, within, since, with_shared_one, with_shared_at, grant_at}

-- ── leases ──
pub leases_none : (t : ℕ → ℕ) → leases (docs 0) (docs 0) t ≡ (λ d. M.free)
unfolding leases
leases_none t = rw docs_none

ticks-set : (b : ℕ) (g : List ℕ) (d t : ℕ) → d < length g → ticks b (set g d t) ≡ override (ticks b g) d (b + t)
unfolding ticks
ticks-set b g d t h =
    fun_ext (λ e. by_case (eqb e d)
    (λ q. rw (q, eqb-true e d q, get_or-set_same g d t 0 h))
    (λ q. rw (q, get_or-set_other g d e t 0 (eqb-false e d q))))

-- what a lease is, by the two sets
pub exclusive_is : (sh ex : ℕ → Bool) (t : ℕ → ℕ) (d : ℕ) → ex d ≡ M.is_exclusive (leases sh ex t d)
unfolding leases
exclusive_is sh ex t d = go (ex d) (sh d)
  where
    go : (x y : Bool) → x ≡ M.is_exclusive (cond x (M.exclusive (t d)) (cond y (M.shared (t d)) M.free))
    go true y = refl
    go false true = refl
    go false false = refl

pub held_is : (sh ex : ℕ → Bool) (t : ℕ → ℕ) (d : ℕ) → sh d || ex d ≡ M.is_held (leases sh ex t d)
unfolding leases
held_is sh ex t d = go (ex d) (sh d)
  where
    go : (x y : Bool) → y || x ≡ M.is_held (cond x (M.exclusive (t d)) (cond y (M.shared (t d)) M.free))
    go true true = refl
    go true false = refl
    go false true = refl
    go false false = refl

pub not_held : (sh ex : ℕ → Bool) (t : ℕ → ℕ) (d : ℕ) → M.is_held (leases sh ex t d) ≡ false → (ex d ≡ false) × (sh d ≡ false)
not_held sh ex t d e = let n = or_false (sh d) (ex d) (held_is sh ex t d ∙ e) in (n.1, n.0)

stays_held : (now : ℕ) (l : M.Lease) → M.is_held l ≡ true → l ≡ or_shared now l
stays_held now M.free e = absurd (true≢false (sym e))
stays_held now (M.shared t) e = refl
stays_held now (M.exclusive t) e = refl

module _ (sh ex : ℕ → Bool) (t : ℕ → ℕ) (d now : ℕ) where
  exclusive_held : ex d ≡ true → leases sh ex t ≡ (λ e. cond (eqb e d) (to_exclusive now (leases sh ex t e)) (leases sh ex t e))
  unfolding leases
  exclusive_held h = fun_ext (λ e. by_case (eqb e d) (λ q. rw (q, eqb-true e d q, h)) (λ q. rw q))

  exclusive_new : ex d ≡ false → leases (override sh d false) (override ex d true) (override t d now) ≡ (λ e. cond (eqb e d) (to_exclusive now (leases sh ex t e)) (leases sh ex t e))
  unfolding leases
  exclusive_new h = fun_ext (λ e. by_case (eqb e d) (λ q. rw (q, eqb-true e d q, h) (go (sh d))) (λ q. rw q))
    where
      go : (b : Bool) → M.exclusive now ≡ to_exclusive now (cond b (M.shared (t d)) M.free)
      go true = refl
      go false = refl

  shared_held : M.is_held (leases sh ex t d) ≡ true → leases sh ex t ≡ (λ e. cond (eqb e d) (or_shared now (leases sh ex t e)) (leases sh ex t e))
  shared_held h = fun_ext (λ e. by_case (eqb e d) (λ q. rw (q, eqb-true e d q) (stays_held now (leases sh ex t d) h)) (λ q. rw q))

  shared_new : M.is_held (leases sh ex t d) ≡ false → leases (override sh d true) ex (override t d now) ≡ (λ e. cond (eqb e d) (or_shared now (leases sh ex t e)) (leases sh ex t e))
  unfolding leases
  shared_new h = let n = not_held sh ex t d h in fun_ext (λ e. by_case (eqb e d) (λ q. rw (q, eqb-true e d q, n.0, n.1)) (λ q. rw q))

-- ── a session without leases and changes ──
pub bare_shows : (n : ℕ) (g : List ℕ) (cs : Changes) → view_changes cs ≡ []
    → view_slot (record { number = n; begun = 0; doomed = true; shared = 0; exclusive = 0; granted = g; changes = cs }) ≡ record { number = n; session = M.doomed_session }
unfolding view_slot view_session
bare_shows n g cs e = rw (e, leases_none (ticks 0 g))

pub opened_shows : (n clock : ℕ) (g : List ℕ) (cs : Changes) → view_changes cs ≡ []
    → view_slot (record { number = n; begun = clock; doomed = false; shared = 0; exclusive = 0; granted = g; changes = cs }) ≡ opened n clock
unfolding view_slot view_session
opened_shows n clock g cs e = rw (e, leases_none (ticks clock g))

pub slot_session : (s : Session) → view_session s ≡ (view_slot s).session
unfolding view_slot
slot_session s = refl

pub session_of_lem : (s : Session) (m : M.Slot) → view_slot s ≡ m → view_session s ≡ m.session
unfolding view_slot
session_of_lem s m e = ap (λ (x : M.Slot). x.session) e

pub remade_doomed : (s r : Session) → view_slot r ≡ record { number = s.number; session = M.doomed_session } → view_slot r ≡ M.remade (λ n t. M.doomed_session) (view_slot s)
unfolding view_slot
remade_doomed s r e = e

-- ── what it holds ──
module _ (s : Session) (d : ℕ) where
  pub holds_exclusive_is : {r : Bool} → r ≡ docs s.exclusive d → r ≡ M.is_exclusive ((view_session s).lease d)
  unfolding view_session
  holds_exclusive_is e = e ∙ exclusive_is (docs s.shared) (docs s.exclusive) (ticks s.begun s.granted) d

pub union_held : (s : Session) (u : ℕ) → docs u ≡ (λ d. docs s.shared d || docs s.exclusive d) → docs u ≡ (λ d. M.is_held ((view_session s).lease d))
unfolding view_session
union_held s u e = e ∙ fun_ext (λ d. held_is (docs s.shared) (docs s.exclusive) (ticks s.begun s.granted) d)

-- ── how much it holds ──
pub exclusive_count : (s : Session) (r : ℕ) → r ≡ count (docs s.exclusive) M.documents → r ≡ count (held_exclusive (view_session s)) M.documents
unfolding view_session
exclusive_count s r e = e ∙ ap (λ f. count f M.documents) (fun_ext (λ d. exclusive_is (docs s.shared) (docs s.exclusive) (ticks s.begun s.granted) d))

-- the elements that pass a test, split by a stronger one
split : (f g : ℕ → Bool) → ((d : ℕ) → f d ≡ false → g d ≡ false) → (l : List ℕ) → count f l ≡ count (λ d. f d && not (g d)) l + count g l
split f g h [] = refl
split f g h (d ∷ l) =
    let r = split f g h l in
    by_case (f d)
    (λ t. by_case (g d) (λ u. rw (t, u) (omega arith)) (λ u. rw (t, u) (omega arith)))
    (λ t. rw (t, h d t) r)

weaker : (l : M.Lease) → M.is_held l ≡ false → M.is_exclusive l ≡ false
weaker M.free e = refl
weaker (M.shared t) e = refl
weaker (M.exclusive t) e = absurd (true≢false e)

module _ (s : Session) (u a x : ℕ) (e : docs u ≡ (λ d. M.is_held ((view_session s).lease d))) (p : a ≡ count (docs u) M.documents) (q : x ≡ count (held_exclusive (view_session s)) M.documents) where
  parted : a ≡ count (held_shared (view_session s)) M.documents + x
  parted = p ∙ ap (λ f. count f M.documents) e ∙ split (λ d. M.is_held ((view_session s).lease d)) (held_exclusive (view_session s)) (λ d. weaker ((view_session s).lease d)) M.documents ∙ ap (λ n. count (held_shared (view_session s)) M.documents + n) (sym q)

  pub fewer_exclusive : x ≤ a
  fewer_exclusive = omega (arith, parted)

  pub shared_count : a - x ≡ count (held_shared (view_session s)) M.documents
  shared_count = omega (arith, parted)

-- ── a shared lease, t ticks after the begin ──
module _ (s : Session) (d t : ℕ) where
  pub share_past : document_count ≤ d → view_slot s ≡ M.remade (λ n x. with_shared_one (x.begun + t) d x) (view_slot s)
  unfolding view_slot with_shared_one
  share_past h = rw (le-ltb d 64 h)

  module _ {b : Bool} (h : d < document_count) (e : b ≡ M.is_held ((view_session s).lease d)) where
    pub share_held : b ≡ true → view_slot s ≡ M.remade (λ n x. with_shared_one (x.begun + t) d x) (view_slot s)
    unfolding view_slot view_session with_shared_one
    share_held u = rw (lt-ltb d 64 h, ← shared_held (docs s.shared) (docs s.exclusive) (ticks s.begun s.granted) d (s.begun + t) (sym e ∙ u)) refl

    pub share_new : (sh : ℕ) → b ≡ false → length s.granted ≡ document_count → docs sh ≡ override (docs s.shared) d (ltb d document_count)
        → view_slot (record { number = s.number; begun = s.begun; doomed = s.doomed; shared = sh; exclusive = s.exclusive; granted = set s.granted d t; changes = s.changes })
        ≡ M.remade (λ n x. with_shared_one (x.begun + t) d x) (view_slot s)
    unfolding view_slot view_session with_shared_one
    share_new sh u l p =
        let k : d < length s.granted = omega arith in
        rw (p, ticks-set s.begun s.granted d t k, lt-ltb d 64 h, ← shared_new (docs s.shared) (docs s.exclusive) (ticks s.begun s.granted) d (s.begun + t) (sym e ∙ u)) refl

-- ── shared leases on the documents of places, one after the other ──
unfoldable pub sharing : ℕ → M.Slot → S.Place → M.Slot
sharing t s q = M.remade (λ n x. with_shared_one (x.begun + t) q.document x) s

pub share_step : (t : ℕ) (s r : Session) (q : Place) → view_slot r ≡ M.remade (λ n x. with_shared_one (x.begun + t) q.document x) (view_slot s) → view_slot r ≡ sharing t (view_slot s) (view_place q)
unfolding sharing view_place
share_step t s r q e = e

twice_shared : (now : ℕ) (b c : Bool) (l : M.Lease) → cond c (or_shared now (cond b (or_shared now l) l)) (cond b (or_shared now l) l) ≡ cond (cond b true c) (or_shared now l) l
twice_shared now true true M.free = refl
twice_shared now true true (M.shared t) = refl
twice_shared now true true (M.exclusive t) = refl
twice_shared now true false l = refl
twice_shared now false true l = refl
twice_shared now false false l = refl

share_all : (t : ℕ) (qs : List S.Place) (s : M.Slot) → fold (sharing t) s qs ≡ M.remade (λ n x. with_shared (x.begun + t) (within qs) x) s
unfolding fold sharing with_shared_one within
share_all t [] s = refl
share_all t (q ∷ qs) s =
    share_all t qs (sharing t s q)
    ∙ by_case (ltb q.document 64)
    (λ u. rw u (ap (λ (f : ℕ → M.Lease). record { number = s.number; session = M.with_leases f s.session }) (fun_ext (λ d. twice_shared (s.session.begun + t) (eqb d q.document) (document_in d (within qs)) (s.session.lease d)))))
    (λ u. rw u)

pub share_key : (s r : Session) (now t : ℕ) (key : Key) → t ≡ since s.begun now → view_slot r ≡ fold (sharing t) (view_slot s) (view_key key) → view_slot r ≡ M.remade (λ n. with_shared_at now (within (view_key key))) (view_slot s)
unfolding with_shared_at view_slot view_session
share_key s r now t key h e = e ∙ share_all t (view_key key) (view_slot s) ∙ rw h

-- places in range are all of them within
pub within_all : (qs : List S.Place) → all S.in_range qs ≡ true → within qs ≡ qs
unfolding within
within_all [] h = refl
within_all (q ∷ qs) h = rw ((and_true (ltb q.document 64) (ltb q.field 4) (all_head S.in_range q qs h)).0, within_all qs (all_tail S.in_range q qs h))

module _ (s : Session) (n : ℕ) (f : M.Session → M.Session) where
  module _ {b : Bool} (i : b ≡ eqb n (view_slot s).number) where
    pub own_is : (r : Session) → b ≡ true → view_slot r ≡ M.remade (λ m. f) (view_slot s) → view_slot r ≡ M.remade (only_at n f) (view_slot s)
    unfolding only_at view_slot
    own_is r h e = e ∙ rw (eq-eqb s.number n (sym (eqb-true n s.number (sym i ∙ h))))

    pub own_other : b ≡ false → view_slot s ≡ M.remade (only_at n f) (view_slot s)
    unfolding only_at view_slot
    own_other h = rw (eqb-sym n s.number (sym i ∙ h))

-- ── an exclusive lease, t ticks after the begin, if there is such a document ──
module _ (s : Session) (d t : ℕ) where
  abbrev Excluded : Session → Type 0
  Excluded r = view_slot r ≡ cond (ltb d document_count) (M.remade (λ n x. with_exclusive (x.begun + t) d x) (view_slot s)) (view_slot s)

  pub exclude_past : document_count ≤ d → Excluded s
  exclude_past h = rw (le-ltb d 64 h)

  module _ {b : Bool} (h : d < document_count) (e : b ≡ docs s.exclusive d) where
    pub exclude_held : b ≡ true → Excluded s
    unfolding view_slot view_session with_exclusive
    exclude_held u = rw (lt-ltb d 64 h, ← exclusive_held (docs s.shared) (docs s.exclusive) (ticks s.begun s.granted) d (s.begun + t) (sym e ∙ u)) refl

    pub exclude_new : (sh ex : ℕ) → b ≡ false → length s.granted ≡ document_count → docs sh ≡ override (docs s.shared) d false → docs ex ≡ override (docs s.exclusive) d (ltb d document_count)
        → Excluded (record { number = s.number; begun = s.begun; doomed = s.doomed; shared = sh; exclusive = ex; granted = set s.granted d t; changes = s.changes })
    unfolding view_slot view_session with_exclusive
    exclude_new sh ex u l p q =
        let k : d < length s.granted = omega arith in
        rw (p, q, lt-ltb d 64 h, ticks-set s.begun s.granted d t k, ← exclusive_new (docs s.shared) (docs s.exclusive) (ticks s.begun s.granted) d (s.begun + t) (sym e ∙ u)) refl

-- ── a change last ──
pub last_shows : (s : Session) (c : Update) (cs : Changes) → view_changes cs ≡ pushed 8 (view_changes s.changes) (view_update c)
    → view_slot (record { number = s.number; begun = s.begun; doomed = s.doomed; shared = s.shared; exclusive = s.exclusive; granted = s.granted; changes = cs })
    ≡ M.remade (λ n. with_last (view_update c)) (view_slot s)
unfolding view_slot view_session with_last
last_shows s c cs e = rw e

-- ── the effect of a change on one session, if there is such a document ──
module _ (s : Session) (n now : ℕ) (c : Update) where
  abbrev Granted : Session → Type 0
  Granted r = view_slot r ≡ cond (ltb c.place.document document_count) (M.remade (grant_at now n (view_update c)) (view_slot s)) (view_slot s)

  module _ (l : c.place.document < document_count) where
    pub grant_own : (x r : Session) (t : ℕ) → s.number ≡ n → t ≡ since s.begun now → Excluded s c.place.document t x → view_slot r ≡ M.remade (λ n. with_last (view_update c)) (view_slot x) → Granted r
    unfolding grant_at grant view_slot view_session view_update view_place
    grant_own x r t h q e f = f ∙ ap (M.remade (λ n. with_last (view_update c))) e ∙ rw (lt-ltb c.place.document 64 l, eq-eqb s.number n h, q)

    module _ (h : s.number ≡ n → ⊥) {b : Bool} (e : b ≡ M.is_held ((view_session s).lease c.place.document)) where
      pub grant_holder : (r : Session) → b ≡ true → view_slot r ≡ M.remade (λ n t. M.doomed_session) (view_slot s) → Granted r
      unfolding grant_at grant view_slot view_update view_place
      grant_holder r t f = f ∙ rw (lt-ltb c.place.document 64 l, ne_eqb s.number n h, ← e, t)

      pub grant_other : b ≡ false → Granted s
      unfolding grant_at grant view_slot view_update view_place
      grant_other t = rw (lt-ltb c.place.document 64 l, ne_eqb s.number n h, ← e, t)

  -- what it does nothing to
  module _ {b : Bool} (e : b ≡ eqb (view_slot s).number n || M.is_held ((view_session s).lease c.place.document)) where
    pub grant_none : b ≡ false → Granted s
    unfolding grant_at grant view_slot view_update view_place
    grant_none t = let k = or_false (eqb s.number n) (M.is_held ((view_session s).lease c.place.document)) (sym e ∙ t) in rw (k.1, k.0) (either (ltb c.place.document 64) (view_slot s))
