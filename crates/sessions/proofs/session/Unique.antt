-- Two sessions in form that show the same are equal.
use Prim.Native.Nat.{ℕ, ◌+◌, ◌-◌, ◌<◌}
use native.Mathlib.Omega.{arith}
use mathlib.Core.Path.{◌≡◌, refl, sym, ◌∙◌, ap, fun_ext}
use mathlib.Core.Bool.{Bool, true, false, cond, true≢false}
use mathlib.Core.List.{List}
use lib.Dec.{ltb}
use lib.ListN.{get_or}
use lib.Seq.{ext_get_or}
use borrow.Author.Tests.{eqb-true, ltb-true, ltb-false}
use Rattle.rules.specs.Tables as M
use Rattle.rules.proofs.Laws.{by_case, nil_is}
use Rattle.docset.specs.Sets.{docs}
use Rattle.docset.proofs.SetLaws.{docs_decide, docs_past}
use Rattle.changes.specs.View.{view_changes}
use Rattle.sessions.specs.declared.session.Session.{Session}
use Rattle.sessions.specs.session.View.{leases, ticks, view_session, view_slot}
use Rattle.sessions.specs.session.Form.{lease_form, session_form, is_unused}
use Rattle.sessions.proofs.session.SessionLaws.{exclusive_is, leases_none}
use Rattle.sessions.proofs.session.FormLaws.{Leased, leases_parts, session_parts, unused_parts}
use Rattle.changes.proofs.Unique.{changes_unique}

-- ── one lease: the sets and the tick, from what it shows ──
abbrev is_shared : M.Lease → Bool
is_shared M.free = false
is_shared (M.shared t) = true
is_shared (M.exclusive t) = false

-- the tick of a grant, from the begin b on
abbrev tick_of : ℕ → M.Lease → ℕ
tick_of b M.free = 0
tick_of b (M.shared t) = t - b
tick_of b (M.exclusive t) = t - b

abbrev made : Bool → Bool → ℕ → M.Lease
made sh ex t = cond ex (M.exclusive t) (cond sh (M.shared t) M.free)

shared_is : (sh ex : Bool) (b t : ℕ) → lease_form sh ex t ≡ true → sh ≡ is_shared (made sh ex (b + t))
unfolding lease_form
shared_is true true b t f = absurd (true≢false (sym f))
shared_is false true b t f = refl
shared_is true false b t f = refl
shared_is false false b t f = refl

tick_is : (sh ex : Bool) (b t : ℕ) → lease_form sh ex t ≡ true → t ≡ tick_of b (made sh ex (b + t))
unfolding lease_form
tick_is sh true b t f = omega arith
tick_is true false b t f = omega arith
tick_is false false b t f = eqb-true t 0 f

module _ (sh ex b : ℕ) (g : List ℕ) (f : Leased sh ex g) where
  shared_shown : (d : ℕ) → docs sh d ≡ is_shared (leases (docs sh) (docs ex) (ticks b g) d)
  unfolding leases ticks
  shared_shown d =
      by_case (ltb d 64)
      (λ t. shared_is (docs sh d) (docs ex d) b (get_or g d 0) (f.each d (ltb-true d 64 t)))
      (λ t. let h = ltb-false d 64 t in rw (← docs_past sh d f.shared h, ← docs_past ex d f.exclusive h))

  tick_shown : (d : ℕ) → d < 64 → get_or g d 0 ≡ tick_of b (leases (docs sh) (docs ex) (ticks b g) d)
  unfolding leases ticks
  tick_shown d h = tick_is (docs sh d) (docs ex d) b (get_or g d 0) (f.each d h)

-- ── the leases of a session ──
abbrev Shows : ℕ → ℕ → ℕ → List ℕ → ℕ → M.Lease
Shows b sh ex g = leases (docs sh) (docs ex) (ticks b g)

module _ (b sh ex : ℕ) (g : List ℕ) (f : Leased sh ex g) (b' sh' ex' : ℕ) (g' : List ℕ) (f' : Leased sh' ex' g') (e : Shows b sh ex g ≡ Shows b' sh' ex' g') where
  shared_same : sh ≡ sh'
  shared_same =
      docs_decide sh sh' f.shared f'.shared
      (fun_ext (λ d. shared_shown sh ex b g f d ∙ ap (λ (l : ℕ → M.Lease). is_shared (l d)) e ∙ sym (shared_shown sh' ex' b' g' f' d)))

  exclusive_same : ex ≡ ex'
  exclusive_same =
      docs_decide ex ex' f.exclusive f'.exclusive
      (fun_ext (λ d. exclusive_is (docs sh) (docs ex) (ticks b g) d ∙ ap (λ (l : ℕ → M.Lease). M.is_exclusive (l d)) e ∙ sym (exclusive_is (docs sh') (docs ex') (ticks b' g') d)))

  granted_same : b ≡ b' → g ≡ g'
  granted_same k =
      ext_get_or 0 g g' (f.long ∙ sym f'.long)
      (λ d h.
      let l : d < 64 = omega (arith, f.long) in
      tick_shown sh ex b g f d l ∙ ap (λ (x : ℕ → M.Lease). tick_of b (x d)) e ∙ ap (λ (n : ℕ). tick_of n (Shows b' sh' ex' g' d)) k ∙ sym (tick_shown sh' ex' b' g' f' d l))

pub session_unique : (a b : Session) → session_form a ≡ true → session_form b ≡ true → view_slot a ≡ view_slot b → a ≡ b
unfolding view_slot view_session
session_unique a b f g e = λ i. record { number = (e i).number; begun = t i; doomed = (e i).session.doomed; shared = sh i; exclusive = ex i; granted = ts i; changes = cs i }
  where
    p : Leased a.shared a.exclusive a.granted
    p = leases_parts a.shared a.exclusive a.granted (session_parts a f).0

    q : Leased b.shared b.exclusive b.granted
    q = leases_parts b.shared b.exclusive b.granted (session_parts b g).0

    l : Shows a.begun a.shared a.exclusive a.granted ≡ Shows b.begun b.shared b.exclusive b.granted
    l = ap (λ (s : M.Slot). s.session.lease) e

    t : a.begun ≡ b.begun
    t = ap (λ (s : M.Slot). s.session.begun) e

    sh : a.shared ≡ b.shared
    sh = shared_same a.begun a.shared a.exclusive a.granted p b.begun b.shared b.exclusive b.granted q l

    ex : a.exclusive ≡ b.exclusive
    ex = exclusive_same a.begun a.shared a.exclusive a.granted p b.begun b.shared b.exclusive b.granted q l

    ts : a.granted ≡ b.granted
    ts = granted_same a.begun a.shared a.exclusive a.granted p b.begun b.shared b.exclusive b.granted q l t

    cs : a.changes ≡ b.changes
    cs = changes_unique a.changes b.changes (session_parts a f).1 (session_parts b g).1 (ap (λ (s : M.Slot). s.session.changes) e)

-- ── slots that are not in use ──
unused_shows : (s : Session) → is_unused s ≡ true → view_slot s ≡ record { number = 0; session = M.doomed_session }
unfolding view_slot view_session
unused_shows s e =
    let h = unused_parts s e in
    let b = h.1 in
    rw (h.0, b.begun, b.doomed, b.shared, b.exclusive, leases_none (ticks 0 s.granted), nil_is (view_changes s.changes) b.changes)

pub unused_unique : (a b : Session) → is_unused a ≡ true → is_unused b ≡ true → a ≡ b
unused_unique a b e f = session_unique a b (unused_parts a e).1.form (unused_parts b f).1.form (unused_shows a e ∙ sym (unused_shows b f))
