-- Hands through their view: one law for each way out of a method.
use Prim.Native.Nat.{ℕ, ◌<◌, ◌≤◌}
use native.Mathlib.Omega.{arith}
use mathlib.Core.Path.{◌≡◌, ◌∙◌, ap, fun_ext}
use mathlib.Core.Bool.{true, cond}
use mathlib.Core.List.{[], ◌∷◌, map}
use lib.ListN.{length, get_or, set, length-map}
use lib.Dec.{ltb}
use borrow.Author.Tests.{lt-ltb}
use Rattle.rules.specs.Limits.{worker_count}
use Rattle.rules.specs.Lists.{any, override}
use Rattle.rules.specs.Tables as M
use Rattle.rules.proofs.Laws.{by_case}
use Rattle.lists.proofs.Forms.{array_empty, array_at, array_set}
use Rattle.lists.proofs.Indexed.{at_index, past_index, set_index, copies_same, any_index}
use Rattle.workers.specs.View.{view_hand, view_hands}
use Rattle.workers.specs.Form.{hand_form, hands_form}
use Rattle.workers.specs.declared.Hand.{Hand}
use Rattle.workers.specs.declared.Hands.{Hands}

module _ (h : Hand) where
  pub handed_full : h.full ≡ true → h.number ≡ M.handed (view_hand h)
  unfolding view_hand
  handed_full e = rw e

  pub full_is : h.full ≡ M.full (view_hand h)
  unfolding view_hand
  full_is = by_case h.full (λ e. rw e) (λ e. rw e)

  pub replied_full : h.full ≡ true → h.replied ≡ M.replied (view_hand h)
  unfolding view_hand
  replied_full e = rw e

-- ── the table ──
pub hands_empty : (h : Hand) → view_hand h ≡ M.empty → view_hands (record { all = h ∷ h ∷ h ∷ h ∷ [] }) ≡ (λ w. M.empty)
unfolding view_hands
hands_empty h e = fun_ext (λ w. copies_same view_hand M.empty 4 h w e)

pub hands_form_lem : (h : Hand) → hand_form h ≡ true → hands_form (record { all = h ∷ h ∷ h ∷ h ∷ [] }) ≡ true
unfolding hands_form
hands_form_lem h e = array_empty 4 hand_form h e

module _ (t : Hands) (l : length t.all ≡ 4) where
  pub hand_past : (w : ℕ) (r : Hand) → length t.all ≤ w → view_hand r ≡ M.empty → view_hand r ≡ view_hands t w
  unfolding view_hands
  hand_past w r h e = e ∙ past_index view_hand M.empty t.all w 4 l (omega arith)

  -- r is the entry
  pub hand_at : (w : ℕ) (r : Hand) → w < length t.all → r ≡ get_or t.all w r → view_hand r ≡ view_hands t w
  unfolding view_hands
  hand_at w r h e = ap view_hand e ∙ at_index view_hand M.empty t.all w r h

  pub hand_form_lem : (w : ℕ) (r : Hand) → w < length t.all → r ≡ get_or t.all w r → hands_form t ≡ true → hand_form r ≡ true
  unfolding hands_form
  hand_form_lem w r h e f = rw e (array_at 4 hand_form t.all w r (omega arith) f)

  pub hands_with : (w : ℕ) (h : Hand) → w < 4 → view_hands (record { all = set t.all w h }) ≡ cond (ltb w worker_count) (override (view_hands t) w (view_hand h)) (view_hands t)
  unfolding view_hands
  hands_with w h k = rw (lt-ltb w 4 k) (set_index view_hand M.empty t.all w h (omega arith))

  pub with_form : (w : ℕ) (h : Hand) → hands_form t ≡ true → hand_form h ≡ true → hands_form (record { all = set t.all w h }) ≡ true
  unfolding hands_form
  with_form w h f g = array_set 4 hand_form t.all w h f g

  pub any_hand_lem : (n : ℕ) → M.any_hand (view_hands t) n ≡ any (M.in_hand n) (map view_hand t.all)
  unfolding view_hands
  any_hand_lem n = any_index (M.in_hand n) M.empty (map view_hand t.all) 4 (length-map t.all view_hand ∙ l)
