-- What a caller learns of an integer that it had read as a number. `held z` is the integer as the machine holds it.
use mathlib.Core.Path.{◌≡◌, refl, sym, ◌∙◌, ap}
use mathlib.Core.Bool.{Bool, true, false, cond, true≢false}
use Prim.Native.Nat.{ℕ, ◌≤◌, ◌<◌}
use native.Mathlib.Omega.{arith}
use lib.Dec.{ltb}
use lib.IntN.{ℤ, pos, negsuc}
use mir.Syntax.{w64}
use mir.Val.{SFits, to_z, of_z}
use mir.Facts.{to_z-of_z}
use borrow.Author.Tests.{ltb-true, ltb-false}
use Rattle.std.specs.Prelude.{Option, Some, None}
use Rattle.std.specs.Option.{unwrap_or}
use Rattle.rules.proofs.Laws.{by_case}
use Rattle.rules.specs.Values.{below, nat_of}
use Rattle.arguments.specs.Numbers.{session_number, index_number, index_of}

abbrev pub held : ℤ → ℤ
held z = to_z w64 (of_z w64 z)

-- ── of `session` ──
pub session_is : (z : ℤ) → SFits w64 z → (n : ℕ) → n ≡ session_number (held z) → n ≡ session_number z
session_is z w n e = e ∙ ap session_number (to_z-of_z w)

-- ── of `index` ──
pub indexed : (z : ℤ) → SFits w64 z → (k : ℕ) (o : Option ℕ) → o ≡ index_of (held z) k → o ≡ index_of z k
indexed z w k o e = e ∙ ap (λ (y : ℤ). index_of y k) (to_z-of_z w)

-- o is what it answered
module _ (z : ℤ) (k : ℕ) (o : Option ℕ) (e : o ≡ index_of z k) where
  pub none_below : o ≡ None → below z k ≡ false
  none_below n = let q : None ≡ index_of z k = sym n ∙ e in by_case (below z k) (λ t. cc (rw t at q)) (λ t. t)

  pub none_number : o ≡ None → k ≡ index_number z k
  none_number n = rw (none_below n) refl

  -- the value of o, or k
  pub or_number : (w : ℕ) → w ≡ unwrap_or o k → w ≡ index_number z k
  or_number w q = q ∙ rw e (by_case (below z k) (λ t. rw t refl) (λ t. rw t refl))

  module _ (w : ℕ) (n : o ≡ Some w) where
    is_some : Some w ≡ index_of z k
    is_some = sym n ∙ e

    pub some_below : below z k ≡ true
    some_below = by_case (below z k) (λ t. t) (λ t. cc (rw t at is_some))

    pub some_is : nat_of z ≡ w
    some_is = cc (rw some_below at is_some)

    pub some_number : w ≡ index_number z k
    some_number = rw some_below (sym some_is)

    pub some_lt : w < k
    some_lt = rw (sym some_is) (go z some_below)
      where
        go : (y : ℤ) → below y k ≡ true → nat_of y < k
        go (pos n) b = ltb-true n k b
        go (negsuc n) b = absurd (true≢false (sym b))

-- ── of its number, or the count where there is none ──
found : (z : ℤ) (k : ℕ) → index_number z k < k → (below z k ≡ true) × (index_number z k ≡ nat_of z)
found (pos n) k l = go (ltb n k) refl l
  where
    go : (b : Bool) → b ≡ ltb n k → cond b n k < k → (b ≡ true) × (cond b n k ≡ n)
    go true e h = (refl, refl)
    go false e h = absurd (omega (arith, h))
found (negsuc n) k l = absurd (omega (arith, l))

missed : (z : ℤ) (k : ℕ) → k ≤ index_number z k → below z k ≡ false
missed (pos n) k l = go (ltb n k) (ltb-true n k) l
  where
    go : (b : Bool) → (b ≡ true → n < k) → k ≤ cond b n k → b ≡ false
    go true e h = absurd (omega (arith, e refl, h))
    go false e h = refl
missed (negsuc n) k l = refl

module _ (z : ℤ) (w : SFits w64 z) (k r : ℕ) (e : r ≡ index_number (held z) k) where
  pub indexed_is : r ≡ index_number z k
  indexed_is = e ∙ ap (λ (y : ℤ). index_number y k) (to_z-of_z w)

  pub outside : k ≤ r → below z k ≡ false
  outside l = missed z k (rw indexed_is at l)

  pub inside : r < k → below z k ≡ true
  inside l = (found z k (rw indexed_is at l)).0

  pub inside_is : r < k → nat_of z ≡ r
  inside_is l = sym (indexed_is ∙ (found z k (rw indexed_is at l)).1)

  pub index_is : below z k ≡ true → nat_of z ≡ r
  index_is h = sym (indexed_is ∙ rw h refl)

  pub index_lt : below z k ≡ true → ltb r k ≡ true
  index_lt h = go z h (indexed_is ∙ rw h refl)
    where
      go : (y : ℤ) → below y k ≡ true → r ≡ nat_of y → ltb r k ≡ true
      go (pos n) b q = ap (λ (m : ℕ). ltb m k) q ∙ b
      go (negsuc n) b q = absurd (true≢false (sym b))

  pub index_test : ltb r k ≡ below z k
  index_test = by_case (ltb r k) (λ t. t ∙ sym (inside (ltb-true r k t))) (λ t. t ∙ sym (outside (ltb-false r k t)))
