-- What a caller of `update` learns of its four numbers.
use mathlib.Core.Path.{◌≡◌, refl, sym, subst, ◌∙◌, ap}
use mathlib.Core.Bool.{true, false, ◌&&◌}
use lib.IntN.{ℤ}
use mir.Syntax.{w64}
use mir.Val.{SFits}
use mir.Facts.{to_z-of_z}
use Rattle.std.specs.Prelude.{Option, Some, None, is_some, IfSome}
use Rattle.rules.specs.Values.{nat_of}
use Rattle.rules.specs.Changes as C
use Rattle.rules.specs.Changes.{place_of, update_of}
use Rattle.rules.specs.Conditions.{good_place, good_change}
use Rattle.arguments.proofs.Numbers.{held}
use Rattle.keys.specs.View.{view_place}
use Rattle.changes.specs.View.{view_update}
use Rattle.changes.specs.declared.Update.{Update}

-- o is what it answered
module _ (x y z v : ℤ) (wx : SFits w64 x) (wy : SFits w64 y) (wz : SFits w64 z) (wv : SFits w64 v) (o : Option Update) where
  module _ (eg : is_some o ≡ good_place (held x) (held y) && good_change (held z) (held v)) where
    is_good : good_place x y && good_change z v ≡ is_some o
    is_good = sym (eg ∙ rw (to_z-of_z wx, to_z-of_z wy, to_z-of_z wz, to_z-of_z wv) refl)

    pub asked_bad : o ≡ None → good_place x y && good_change z v ≡ false
    asked_bad h = is_good ∙ ap is_some h

    pub asked_good : (c : Update) → o ≡ Some c → good_place x y && good_change z v ≡ true
    asked_good c h = is_good ∙ ap is_some h

  module _ (es : IfSome o (λ c. view_update c ≡ update_of (place_of (held x) (held y)) (nat_of (held z)) (held v))) (c : Update) (h : o ≡ Some c) where
    pub asked_is : view_update c ≡ update_of (place_of x y) (nat_of z) v
    asked_is = subst (λ (q : Option Update). IfSome q (λ u. view_update u ≡ update_of (place_of (held x) (held y)) (nat_of (held z)) (held v))) h es ∙ rw (to_z-of_z wx, to_z-of_z wy, to_z-of_z wz, to_z-of_z wv) refl

    pub asked_place : view_place c.place ≡ place_of x y
    unfolding view_update
    asked_place = ap (λ (u : C.Update). u.at) asked_is
