-- In the life of a session the tick that is kept of a grant is the clock's own. So in slots that keep the rules,
-- what a session that is not doomed is granted is what the rules say.
use Prim.Native.Nat.{ℕ, ◌+◌, ◌<◌, ◌≤◌}
use native.Mathlib.Omega.{arith}
use mathlib.Core.Path.{◌≡◌, refl, ap}
use mathlib.Core.Bool.{true, false}
use mathlib.Core.List.{List, [], ◌∷◌}
use lib.Dec.{eqb, ltb}
use borrow.Author.Tests.{eqb-true, ltb-true, ne_eqb}
use Rattle.rules.specs.Limits.{session_ticks}
use Rattle.rules.specs.Lists.{all}
use Rattle.rules.specs.Values.{Place, Stock}
use Rattle.rules.specs.Changes.{Update}
use Rattle.rules.specs.Tables as M
use Rattle.rules.specs.Effects.{with_shared, grant, only_at}
use Rattle.rules.specs.Kept.{session_ok}
use Rattle.rules.proofs.Laws.{by_case, eqb-sym}
use Rattle.rules.proofs.Tests.{all_head, all_tail}
use Rattle.rules.proofs.KeptParts.{SlotsKept}
use Rattle.rules.proofs.KeptSlots.{Ordered, live_parts, order_head, order_tail}
use Rattle.sessions.specs.session.View.{granting, with_shared_at, grant_at}

pub granting_is : (now : ℕ) (s : M.Session) → s.begun ≤ now → now < s.begun + session_ticks → granting now s ≡ now
granting_is now s h l = omega arith

-- two changes of every session that are the same for session n in its life, and for every other
module _ (f g : ℕ → M.Session → M.Session) (n clock : ℕ) (own : (s : M.Session) → s.begun ≤ clock → clock < s.begun + session_ticks → f n s ≡ g n s)
    (other : (m : ℕ) (s : M.Session) → eqb m n ≡ false → f m s ≡ g m s) where
  each_later : (l : List M.Slot) → all (λ s. ltb n s.number) l ≡ true → M.each f l ≡ M.each g l
  each_later [] h = refl
  each_later (x ∷ l) h =
      let a = ltb-true n x.number (all_head (λ s. ltb n s.number) x l h) in
      rw (other x.number x.session (ne_eqb x.number n (λ e. omega arith)), each_later l (all_tail (λ s. ltb n s.number) x l h))

  each_same : (now : Stock) (l : List M.Slot) → Ordered l → all (λ s. session_ok now clock s.session) l ≡ true
      → (M.session n l).doomed ≡ false → M.each f l ≡ M.each g l
  each_same now [] o k h = refl
  each_same now (x ∷ l) o k h =
      by_case (eqb n x.number)
      (λ t.
      let e = eqb-true n x.number t in
      let p = live_parts now clock x.session (rw t at h) (all_head (λ s. session_ok now clock s.session) x l k) in
      let q : f x.number x.session ≡ g x.number x.session = rw (← e) (own x.session p.begun p.young) in
      rw (q, each_later l (rw (← e) at (order_head x l o))))
      (λ t.
      rw
      (other x.number x.session (eqb-sym n x.number t), each_same now l (order_tail x l o) (all_tail (λ s. session_ok now clock s.session) x l k) (rw t at h)))

module _ {now : Stock} {clock next : ℕ} {l : List M.Slot} (n : ℕ) (k : SlotsKept now clock next l) (h : (M.session n l).doomed ≡ false) where
  pub shared_kept : (qs : List Place) → M.each (only_at n (with_shared_at clock qs)) l ≡ M.each (only_at n (with_shared clock qs)) l
  unfolding only_at with_shared_at
  shared_kept qs =
      each_same (only_at n (with_shared_at clock qs)) (only_at n (with_shared clock qs)) n clock
      (λ s a b. ap (λ (t : ℕ). only_at n (with_shared t qs) n s) (granting_is clock s a b))
      (λ m s e. rw e)
      now l k.order k.ok h

  pub grant_kept : (c : Update) → M.each (grant_at clock n c) l ≡ M.each (grant clock n c) l
  unfolding grant grant_at
  grant_kept c =
      each_same (grant_at clock n c) (grant clock n c) n clock
      (λ s a b. ap (λ (t : ℕ). grant t n c n s) (granting_is clock s a b))
      (λ m s e. rw e)
      now l k.order k.ok h
