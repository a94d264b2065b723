-- Lapses of a session through its view: one law for each way out of a method.
use Prim.Native.Nat.{ℕ, ◌+◌, ◌-◌}
use native.Mathlib.Omega.{arith}
use mathlib.Core.Path.{◌≡◌, refl, sym, ◌∙◌, ap, fun_ext}
use mathlib.Core.Bool.{Bool, true, false, cond, ◌&&◌}
use lib.Dec.{leb}
use lib.ListN.{get_or}
use borrow.Author.Tests.{le-leb, lt-leb, leb-true, leb-false}
use Rattle.rules.specs.Limits.{lease_ticks}
use Rattle.rules.specs.Lists.{any}
use Rattle.rules.specs.Tables as M
use Rattle.rules.specs.Effects.{lapses, lapse, loses}
use Rattle.rules.proofs.Laws.{by_case}
use Rattle.rules.proofs.Buffer.{and_false}
use Rattle.lists.proofs.Indexed.{any_false}
use Rattle.docset.specs.Sets.{docs}
use Rattle.docset.proofs.SetLaws.{docs_none}
use Rattle.sessions.specs.declared.session.Session.{Session}
use Rattle.sessions.specs.session.View.{leases, ticks, view_session, view_slot}

-- ── one lease ──
-- a held lease has lapsed by its tick
over_is : (sh ex : ℕ → Bool) (t : ℕ → ℕ) (clock d : ℕ) → M.has_lapsed clock (leases sh ex t d) ≡ M.is_held (leases sh ex t d) && leb (t d + lease_ticks) clock
unfolding leases
over_is sh ex t clock d = go (ex d) (sh d)
  where
    go : (x y : Bool) → M.has_lapsed clock (cond x (M.exclusive (t d)) (cond y (M.shared (t d)) M.free)) ≡ M.is_held (cond x (M.exclusive (t d)) (cond y (M.shared (t d)) M.free)) && leb (t d + lease_ticks) clock
    go true y = refl
    go false true = refl
    go false false = refl

-- t ticks after the begin b
module _ (b t clock : ℕ) where
  young : leb (b + lease_ticks) clock ≡ false → leb (b + t + lease_ticks) clock ≡ false
  young e = lt-leb (b + t + lease_ticks) clock (omega (arith, leb-false (b + lease_ticks) clock e))

  old : leb (b + lease_ticks) clock ≡ true → leb t (clock - b - lease_ticks) ≡ leb (b + t + lease_ticks) clock
  old e =
      let h = leb-true (b + lease_ticks) clock e in
      by_case (leb t (clock - b - lease_ticks))
      (λ u. let a = leb-true t (clock - b - lease_ticks) u in u ∙ sym (le-leb (b + t + lease_ticks) clock (omega arith)))
      (λ u. let a = leb-false t (clock - b - lease_ticks) u in u ∙ sym (lt-leb (b + t + lease_ticks) clock (omega arith)))

module _ (s : Session) (clock : ℕ) where
  module _ (b : Bool) (k : b ≡ leb (s.begun + lease_ticks) clock) where
    pub lapsed_early : b ≡ false → b ≡ any (λ d. M.has_lapsed clock ((view_session s).lease d)) M.documents
    unfolding view_session ticks
    lapsed_early h =
        h
        ∙ sym
        (any_false (λ d. M.has_lapsed clock ((view_session s).lease d))
        (λ d.
        over_is (docs s.shared) (docs s.exclusive) (ticks s.begun s.granted) clock d
        ∙ ap (λ (x : Bool). M.is_held ((view_session s).lease d) && x) (young s.begun (get_or s.granted d 0) clock (sym k ∙ h))
        ∙ and_false (M.is_held ((view_session s).lease d)) false refl)
        M.documents)

    pub lapsed_late : (u : ℕ) (r : Bool) → b ≡ true → docs u ≡ (λ d. M.is_held ((view_session s).lease d)) → r ≡ any (λ d. docs u d && leb (get_or s.granted d 0) (clock - s.begun - lease_ticks)) M.documents
        → r ≡ any (λ d. M.has_lapsed clock ((view_session s).lease d)) M.documents
    unfolding view_session ticks
    lapsed_late u r h e q =
        q
        ∙ ap (λ (p : ℕ → Bool). any p M.documents)
        (fun_ext (λ d.
        ap (λ (x : ℕ → Bool). x d && leb (get_or s.granted d 0) (clock - s.begun - lease_ticks)) e
        ∙ ap (λ (x : Bool). M.is_held ((view_session s).lease d) && x) (old s.begun (get_or s.granted d 0) clock (sym k ∙ h))
        ∙ sym (over_is (docs s.shared) (docs s.exclusive) (ticks s.begun s.granted) clock d)))

  -- ── the session ──
  module _ {b : Bool} (e : b ≡ lapses clock (view_session s)) where
    pub lapsed_now : (r : Session) → b ≡ true → view_slot r ≡ M.remade (λ n t. M.doomed_session) (view_slot s) → view_slot r ≡ M.remade (lapse clock) (view_slot s)
    unfolding lapse view_slot
    lapsed_now r t f = f ∙ rw (← e, t)

    pub lapsed_not : b ≡ false → view_slot s ≡ M.remade (lapse clock) (view_slot s)
    unfolding lapse view_slot
    lapsed_not t = rw (← e, t)

    pub lost_now : (r : ℕ) → b ≡ true → docs r ≡ (λ d. M.is_held ((view_session s).lease d)) → docs r ≡ loses clock (view_slot s)
    unfolding loses view_slot
    lost_now r t f = f ∙ fun_ext (λ d. rw (← e, t))

    pub lost_not : b ≡ false → docs 0 ≡ loses clock (view_slot s)
    unfolding loses view_slot
    lost_not t = docs_none ∙ fun_ext (λ d. rw (← e, t))
