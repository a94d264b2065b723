-- The part of a piece that `get` lends, or else nothing.
use Prim.Native.Nat.{◌-◌, ◌≤◌, min, ℕ}
use native.Mathlib.Omega.{arith}
use mathlib.Core.Path.{◌≡◌, ◌∙◌, ap}
use mathlib.Core.List.{List, []}
use mathlib.Core.Logic.{inl, inr}
use lib.ListN.{drop, length, length-drop, take}
use lib.Seq.{take_all}
use denote.Ref.{Bor}
use Rattle.std.specs.Prelude as P
use Rattle.std.specs.Prelude.{Some, None, unwrap_or}
use Rattle.std.specs.Slice.{IsGetRangeResult}
use Rattle.lists.proofs.Loops.{take_min}
use Rattle.line_pending.specs.View.{between}

part : (l : List ℕ) (from to : ℕ) (r : P.Option (Bor (List ℕ))) (d : Bor (List ℕ)) → IsGetRangeResult l from to r → to ≤ length l → d.now ≡ [] → (unwrap_or r d).now ≡ take (to - from) (drop from l)
part l from to None d h w e = let z : to - from ≡ 0 = elim h.0 [ inl a ↦ omega arith | inr b ↦ omega arith ] in rw (e, z)
part l from to (Some x) d h w e = h.0.2

module _ (l : List ℕ) (from : ℕ) (r : P.Option (Bor (List ℕ))) (d : Bor (List ℕ)) {x : Bor (List ℕ)} (f : x ≡ unwrap_or r d) where
  pub lent_rest : IsGetRangeResult l from (length l) r → d.now ≡ [] → x.now ≡ drop from l
  lent_rest h e = ap (λ (z : Bor (List ℕ)). z.now) f ∙ part l from (length l) r d h (omega arith) e ∙ take_all (length l - from) (drop from l) (rw (length-drop from l) (omega arith))

  pub lent_between : (to : ℕ) {m : ℕ} → m ≡ min to (length l) → IsGetRangeResult l from m r → d.now ≡ [] → x.now ≡ between from to l
  lent_between to {m} q h e =
      let k : m - from ≡ min (to - from) (length (drop from l)) = rw (length-drop from l) (omega arith) in
      ap (λ (z : Bor (List ℕ)). z.now) f ∙ part l from m r d h (omega arith) e ∙ rw k (take_min (to - from) (drop from l))
