-- The one form of a session: each method keeps it.
use Prim.Native.Nat.{ℕ, ◌<◌, ◌^◌}
use mathlib.Core.Path.{◌≡◌, refl, sym, ◌∙◌, ap}
use mathlib.Core.Bool.{Bool, true, false, ◌&&◌}
use mathlib.Core.List.{List, []}
use lib.Dec.{eqb, ltb, lit<}
use lib.ListN.{length, get_or, set, replicate, length-set, get_or-replicate}
use lib.Seq.{get_or-set_other}
use borrow.Author.Tests.{eq-eqb, eqb-true, eqb-false, lt-ltb, ltb-true}
use Rattle.rules.specs.Limits.{document_count}
use Rattle.rules.specs.Lists.{all, is_empty, override}
use Rattle.rules.specs.Tables as M
use Rattle.rules.proofs.Laws.{by_case, and_true, both}
use Rattle.rules.proofs.Tests.{all-upto, upto_all}
use Rattle.docset.specs.Sets.{docs}
use Rattle.docset.proofs.SetLaws.{docs_none}
use Rattle.changes.specs.declared.Changes.{Changes}
use Rattle.changes.specs.View.{view_changes}
use Rattle.changes.specs.Form.{changes_form}
use Rattle.sessions.specs.declared.session.Session.{Session}
use Rattle.sessions.specs.session.View.{ticks, view_session, view_slot}
use Rattle.sessions.specs.session.Form.{lease_form, leases_form, session_form, is_bare, is_unused}
use Rattle.sessions.proofs.session.SessionLaws.{not_held}

-- ── leases ──
pub record Leased (sh ex : ℕ) (g : List ℕ) : Type 0 where
  pub shared : sh < 2 ^ 64
  pub exclusive : ex < 2 ^ 64
  pub long : length g ≡ 64
  pub each : (d : ℕ) → d < 64 → lease_form (docs sh d) (docs ex d) (get_or g d 0) ≡ true

module _ (sh ex : ℕ) (g : List ℕ) where
  abbrev test : ℕ → Bool
  test d = lease_form (docs sh d) (docs ex d) (get_or g d 0)

  pub leases_parts : leases_form sh ex g ≡ true → Leased sh ex g
  unfolding leases_form M.documents
  leases_parts e =
      let a = and_true (ltb sh (2 ^ 64) && ltb ex (2 ^ 64) && eqb (length g) 64) (all test M.documents) e in
      let b = and_true (ltb sh (2 ^ 64) && ltb ex (2 ^ 64)) (eqb (length g) 64) a.0 in
      let c = and_true (ltb sh (2 ^ 64)) (ltb ex (2 ^ 64)) b.0 in
      record {
        shared = ltb-true sh (2 ^ 64) c.0;
        exclusive = ltb-true ex (2 ^ 64) c.1;
        long = eqb-true (length g) 64 b.1;
        each = λ d h. all-upto test 64 d a.1 h;
      }

  pub parts_leases : Leased sh ex g → leases_form sh ex g ≡ true
  unfolding leases_form M.documents
  parts_leases f =
      both (ltb sh (2 ^ 64) && ltb ex (2 ^ 64) && eqb (length g) 64) (all test M.documents)
      (both (ltb sh (2 ^ 64) && ltb ex (2 ^ 64)) (eqb (length g) 64) (both (ltb sh (2 ^ 64)) (ltb ex (2 ^ 64)) (lt-ltb sh (2 ^ 64) f.shared) (lt-ltb ex (2 ^ 64) f.exclusive)) (eq-eqb (length g) 64 f.long))
      (upto_all test 64 f.each)

bare_lease : (d : ℕ) → d < 64 → lease_form (docs 0 d) (docs 0 d) (get_or (replicate 64 0) d 0) ≡ true
unfolding lease_form
bare_lease d h = rw (docs_none, get_or-replicate {A = ℕ} 64 d 0 0 h)

leases_bare : leases_form 0 0 (replicate 64 0) ≡ true
leases_bare = parts_leases 0 0 (replicate 64 0) (record { shared = lit< tt; exclusive = lit< tt; long = refl; each = bare_lease })

excluded : (t : ℕ) → lease_form false true t ≡ true
unfolding lease_form
excluded t = refl

shared_now : (x : Bool) (t : ℕ) → x ≡ false → lease_form true x t ≡ true
unfolding lease_form
shared_now x t e = rw e

module _ (sh ex : ℕ) (g : List ℕ) (d now : ℕ) (h : d < 64) (f : leases_form sh ex g ≡ true) where
  leases_exclude : (x y : ℕ) → x < 2 ^ 64 → y < 2 ^ 64 → docs x ≡ override (docs sh) d false → docs y ≡ override (docs ex) d (ltb d 64) → leases_form x y (set g d now) ≡ true
  leases_exclude x y l m p q = parts_leases x y (set g d now) (record { shared = l; exclusive = m; long = length-set g d now ∙ k.long; each = at })
    where
      k : Leased sh ex g
      k = leases_parts sh ex g f

      at : (e : ℕ) → e < 64 → lease_form (docs x e) (docs y e) (get_or (set g d now) e 0) ≡ true
      at e b = rw (p, q) (by_case (eqb e d) (λ t. rw (t, lt-ltb d 64 h) (excluded (get_or (set g d now) e 0))) (λ t. rw (t, get_or-set_other g d e now 0 (eqb-false e d t)) (k.each e b)))

  leases_share : (x : ℕ) → docs ex d ≡ false → x < 2 ^ 64 → docs x ≡ override (docs sh) d (ltb d 64) → leases_form x ex (set g d now) ≡ true
  leases_share x o l p = parts_leases x ex (set g d now) (record { shared = l; exclusive = k.exclusive; long = length-set g d now ∙ k.long; each = at })
    where
      k : Leased sh ex g
      k = leases_parts sh ex g f

      at : (e : ℕ) → e < 64 → lease_form (docs x e) (docs ex e) (get_or (set g d now) e 0) ≡ true
      at e b =
          rw p
          (by_case (eqb e d)
          (λ t. rw (t, lt-ltb d 64 h) (shared_now (docs ex e) (get_or (set g d now) e 0) (ap (docs ex) (eqb-true e d t) ∙ o)))
          (λ t. rw (t, get_or-set_other g d e now 0 (eqb-false e d t)) (k.each e b)))

-- ── a session ──
pub session_parts : (s : Session) → session_form s ≡ true → (leases_form s.shared s.exclusive s.granted ≡ true) × (changes_form s.changes ≡ true)
unfolding session_form
session_parts s e = and_true (leases_form s.shared s.exclusive s.granted) (changes_form s.changes) e

pub bare_form : (n : ℕ) (cs : Changes) → view_changes cs ≡ [] → changes_form cs ≡ true → is_bare (record { number = n; begun = 0; doomed = true; shared = 0; exclusive = 0; granted = replicate 64 0; changes = cs }) ≡ true
unfolding is_bare session_form
bare_form n cs e f = rw (leases_bare, f, e)

pub opened_form : (n clock : ℕ) (cs : Changes) → changes_form cs ≡ true → session_form (record { number = n; begun = clock; doomed = false; shared = 0; exclusive = 0; granted = replicate 64 0; changes = cs }) ≡ true
unfolding session_form
opened_form n clock cs f = rw (leases_bare, f)

pub record Bare (s : Session) : Type 0 where
  pub form : session_form s ≡ true
  pub doomed : s.doomed ≡ true
  pub begun : s.begun ≡ 0
  pub shared : s.shared ≡ 0
  pub exclusive : s.exclusive ≡ 0
  pub changes : is_empty (view_changes s.changes) ≡ true

pub bare_parts : (s : Session) → is_bare s ≡ true → Bare s
unfolding is_bare
bare_parts s e =
    let a = and_true (session_form s && s.doomed && eqb s.begun 0 && eqb s.shared 0 && eqb s.exclusive 0) (is_empty (view_changes s.changes)) e in
    let b = and_true (session_form s && s.doomed && eqb s.begun 0 && eqb s.shared 0) (eqb s.exclusive 0) a.0 in
    let c = and_true (session_form s && s.doomed && eqb s.begun 0) (eqb s.shared 0) b.0 in
    let d = and_true (session_form s && s.doomed) (eqb s.begun 0) c.0 in
    let f = and_true (session_form s) s.doomed d.0 in
    record { form = f.0; doomed = f.1; begun = eqb-true s.begun 0 d.1; shared = eqb-true s.shared 0 c.1; exclusive = eqb-true s.exclusive 0 b.1; changes = a.1 }

pub bare_session : (s : Session) → is_bare s ≡ true → session_form s ≡ true
bare_session s e = (bare_parts s e).form

pub unused_is : (s : Session) → view_slot s ≡ record { number = 0; session = M.doomed_session } → is_bare s ≡ true → is_unused s ≡ true
unfolding is_unused view_slot
unused_is s e f = both (eqb s.number 0) (is_bare s) (eq-eqb s.number 0 (ap (λ (m : M.Slot). m.number) e)) f

pub unused_parts : (s : Session) → is_unused s ≡ true → (s.number ≡ 0) × Bare s
unfolding is_unused
unused_parts s e = let h = and_true (eqb s.number 0) (is_bare s) e in (eqb-true s.number 0 h.0, bare_parts s h.1)

module _ (s : Session) (d now : ℕ) where
  pub exclude_form : (sh ex : ℕ) → d < 64 → sh < 2 ^ 64 → ex < 2 ^ 64 → docs sh ≡ override (docs s.shared) d false → docs ex ≡ override (docs s.exclusive) d (ltb d document_count) → session_form s ≡ true
      → session_form (record { number = s.number; begun = s.begun; doomed = s.doomed; shared = sh; exclusive = ex; granted = set s.granted d now; changes = s.changes }) ≡ true
  unfolding session_form
  exclude_form sh ex h l m p q f =
      let k = session_parts s f in
      both (leases_form sh ex (set s.granted d now)) (changes_form s.changes) (leases_exclude s.shared s.exclusive s.granted d now h k.0 sh ex l m p q) k.1

  pub share_form : {b : Bool} (sh : ℕ) → b ≡ M.is_held ((view_session s).lease d) → b ≡ false → d < 64 → sh < 2 ^ 64 → docs sh ≡ override (docs s.shared) d (ltb d document_count) → session_form s ≡ true
      → session_form (record { number = s.number; begun = s.begun; doomed = s.doomed; shared = sh; exclusive = s.exclusive; granted = set s.granted d now; changes = s.changes }) ≡ true
  unfolding session_form view_session
  share_form sh e t h l p f =
      let k = session_parts s f in
      let o = not_held (docs s.shared) (docs s.exclusive) (ticks s.begun s.granted) d (sym e ∙ t) in
      both (leases_form sh s.exclusive (set s.granted d now)) (changes_form s.changes) (leases_share s.shared s.exclusive s.granted d now h k.0 sh o.0 l p) k.1

pub last_form : (s : Session) (cs : Changes) → (changes_form s.changes ≡ true → changes_form cs ≡ true) → session_form s ≡ true
    → session_form (record { number = s.number; begun = s.begun; doomed = s.doomed; shared = s.shared; exclusive = s.exclusive; granted = s.granted; changes = cs }) ≡ true
unfolding session_form
last_form s cs g f = let k = session_parts s f in both (leases_form s.shared s.exclusive s.granted) (changes_form cs) k.0 (g k.1)
