-- Bytes written one part after the other to the front of lent ones.
use mathlib.Core.Path.{◌≡◌, refl, sym, ◌∙◌, ap}
use mathlib.Core.List.{List, [], ◌∷◌, ◌++◌, append_assoc, append-nil}
use Prim.Native.Nat.{ℕ, suc, ◌+◌, ◌-◌, ◌≤◌, ◌<◌}
use native.Mathlib.Omega.{arith}
use lib.ListN.{length, get_or, take, drop, set, length-append, length-drop, drop_of_length-le}
use lib.Seq.{take_all, take_at, drop_at, drop-drop, drop-cons, set_at, append_snoc}
use borrow.Author.Tests.{le-leb}
use borrow.Rule.Slice.PartMut.{put_mid}
use Rattle.line_print.specs.columns.Printed.{printed}

printed_within : (bs v : List ℕ) → length bs ≤ length v → printed bs v ≡ bs ++ drop (length bs) v
unfolding printed
printed_within bs v h = rw (le-leb (length bs) (length v) h) refl

-- vs is v with done at its front
pub record Written (v done vs : List ℕ) : Type 0 where
  pub room : length done ≤ length v
  pub is : vs ≡ done ++ drop (length done) v

pub nothing : {v : List ℕ} → Written v [] v
nothing = record { room = omega arith; is = refl }

pub first : (v bs vs : List ℕ) → length bs ≤ length v → vs ≡ printed bs v → Written v bs vs
first v bs vs h e = record { room = h; is = e ∙ printed_within bs v h }

module _ {v done vs : List ℕ} (w : Written v done vs) where
  pub as_printed : vs ≡ printed done v
  as_printed = w.is ∙ sym (printed_within done v w.room)

  long : length vs ≡ length v
  long = let r = w.room in rw w.is (simp (length-append, length-drop) (omega arith))

  module _ (at : ℕ) (e : at ≡ length done) where
    left : drop at vs ≡ drop at v
    left = rw (w.is, ← e) (drop_at done (drop at v) at (sym e))

    kept : take at vs ≡ done
    kept = rw w.is (take_at done (drop (length done) v) at (sym e))

    -- a part lent on, whose front is printed
    pub on : (bs ys : List ℕ) → at + length bs ≤ length v → ys ≡ printed bs (take (length vs - at) (drop at vs)) → Written v (done ++ bs) (put_mid at (length vs - at) vs ys)
    on bs ys h p =
        let l = long in
        let q : length (drop at vs) ≤ length vs - at = simp length-drop (omega arith) in
        let m : length bs ≤ length (drop at v) = simp length-drop (omega arith) in
        let t : take (length vs - at) (drop at vs) ≡ drop at v = take_all (length vs - at) (drop at vs) q ∙ left in
        let n : length (done ++ bs) ≡ at + length bs = simp length-append (omega arith) in
        let y : ys ≡ bs ++ drop (at + length bs) v = p ∙ rw (t, printed_within bs (drop at v) m) (ap (λ (r : List ℕ). bs ++ r) (drop-drop (length bs) at v)) in
        record {
          room = rw n h;
          is =
              ap (λ (r : List ℕ). take at vs ++ (ys ++ r)) (drop_of_length-le (drop at vs) q)
              ∙ rw (append-nil, kept, y, n) (sym (append_assoc done bs (drop (at + length bs) v)));
        }

    -- one byte more
    pub byte : (b : ℕ) → at < length v → Written v (done ++ (b ∷ [])) (set vs at b)
    byte b h =
        let n : length (done ++ (b ∷ [])) ≡ suc at = simp length-append (omega arith) in
        let s : vs ≡ done ++ (get_or v at 0 ∷ drop (suc at) v) = w.is ∙ rw (← e) (ap (λ (r : List ℕ). done ++ r) (drop-cons v at 0 h)) in
        record {
          room = rw n (omega arith);
          is = ap (λ (r : List ℕ). set r at b) s ∙ set_at done (get_or v at 0) (drop (suc at) v) b at (sym e) ∙ rw n (sym (append_snoc done b (drop (suc at) v)));
        }
