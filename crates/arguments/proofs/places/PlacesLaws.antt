-- The places of a map's pairs and the key that they make.
use mathlib.Core.Path.{◌≡◌, refl, sym, ◌∙◌, ap}
use mathlib.Core.Bool.{true, false, not, true≢false}
use mathlib.Core.List.{List, [], ◌∷◌, map}
use Prim.Native.Nat.{ℕ, ◌-◌, ◌≤◌}
use native.Mathlib.Omega.{arith}
use lib.ListN.{drop, take, length, length-drop}
use lib.Seq.{take_all}
use lib.IntN.{ℤ}
use mir.Syntax.{w64}
use mir.Val.{SFits}
use mir.Facts.{to_z-of_z}
use Rattle.std.specs.List.{drop-map}
use Rattle.rules.specs.Limits.{place_limit}
use Rattle.rules.specs.Lists.{any, all}
use Rattle.rules.specs.Conditions.{is_zero}
use Rattle.rules.proofs.Laws.{by_case}
use Rattle.lists.proofs.Forms.{parts_form}
use Rattle.keys.specs.View.{view_place}
use Rattle.keys.specs.Form.{is_blank, key_form}
use Rattle.keys.specs.declared.Place.{Place}
use Rattle.arguments.specs.places.View.{pairs, has_stray}
use Rattle.arguments.proofs.Numbers.{held}

-- ── places that are not in use ──
none_stray : (l : List Place) → any (λ q. not (is_zero q)) (map view_place l) ≡ false → all is_blank l ≡ true
unfolding view_place is_blank
none_stray [] e = refl
none_stray (q ∷ l) e = by_case (is_zero (view_place q)) (λ t. rw t (none_stray l (rw t at e))) (λ t. absurd (true≢false (rw t at e)))

all_pass : (l : List Place) → all (λ q. true) l ≡ true
all_pass [] = refl
all_pass (q ∷ l) = all_pass l

-- the places from n on, as a slice has them
pub all_past : (n : ℕ) (l : List Place) → map view_place (take (length l - n) (drop n l)) ≡ drop n (map view_place l)
all_past n l = ap (map view_place) (take_all (length l - n) (drop n l) (simp length-drop (omega arith))) ∙ sym (drop-map view_place n l)

-- ── the key of the first n of four places ──
pub key_formed : (n : ℕ) (l : List Place) → n ≤ place_limit → has_stray n (map view_place l) ≡ false → length l ≡ place_limit → key_form (record { count = n; places = l }) ≡ true
unfolding key_form
key_formed n l h e f =
    parts_form place_limit (λ q. true) is_blank n l
    (record { long = f; within = h; in_use = all_pass (take n l); rest = none_stray (drop n l) (ap (any (λ q. not (is_zero q))) (sym (drop-map view_place n l)) ∙ e) })

-- ── pairs as the machine holds them ──
module _ (d e f g h i j k : ℤ) (wd : SFits w64 d) (we : SFits w64 e) (wf : SFits w64 f) (wg : SFits w64 g) (wh : SFits w64 h) (wi : SFits w64 i) (wj : SFits w64 j) (wk : SFits w64 k) where
  pub held-pairs : pairs (held d) (held e) (held f) (held g) (held h) (held i) (held j) (held k) ≡ pairs d e f g h i j k
  held-pairs = rw (to_z-of_z wd, to_z-of_z we, to_z-of_z wf, to_z-of_z wg, to_z-of_z wh, to_z-of_z wi, to_z-of_z wj, to_z-of_z wk) refl
