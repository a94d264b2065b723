-- What the lent words hold is not seen: of two runs of words of one length an answer's line and the plant left are the same.
use Prim.Native.Nat.{◌*◌}
use mathlib.Core.Path.{◌≡◌, refl, ap, ◌∙◌}
use mathlib.Core.Option.{Option, none, some}
use mathlib.Core.List.{List, ◌++◌, map}
use lib.IntN.{ℤ}
use lib.ListN.{length, take, drop}
use lib.Seq.{take_at}
use Rattle.rules.specs.Limits.{key_count, words_per_field}
use Rattle.rules.specs.Refusals.{Refusal, first}
use Rattle.rules.specs.Values.{below, nat_of, show_all}
use Rattle.rules.specs.Reading.{seen}
use Rattle.rules.specs.Tables.{Plant}
use Rattle.rules.specs.Calls.{Call, Load, Map, Begin, Read, Change, Commit, Abandon, Advance, Take, Apply, Delete, Cut, Sweep, Store, Report}
use Rattle.rules.specs.Conditions.{conditions, own}
use Rattle.rules.specs.Step.{accepted, settle, step}
use Rattle.rules.proofs.Laws.{by_case}
use Rattle.rules.proofs.Words.{length-show_all}
use Rattle.line_format.specs.Lines.{answer_line}
use Rattle.line_format.specs.Serving.{replied}

module _ (lent words : List ℤ) (e : length lent ≡ length words) (p : Plant) where
  -- only a read asks for them, and for their number alone
  same_conditions : (c : Call) → conditions c lent p ≡ conditions c words p
  unfolding conditions
  same_conditions (Load d f k v) = refl
  same_conditions (Map k n m) = refl
  same_conditions Begin = refl
  same_conditions (Read s k) = rw e refl
  same_conditions (Change s d f k v) = refl
  same_conditions (Commit s) = refl
  same_conditions (Abandon s) = refl
  same_conditions (Advance n) = refl
  same_conditions (Take w) = refl
  same_conditions (Apply w fate) = refl
  same_conditions (Delete w) = refl
  same_conditions (Cut w) = refl
  same_conditions Sweep = refl
  same_conditions (Store n) = refl
  same_conditions (Report s) = refl

  -- and it shows its own in the first of them
  shown : (s k : ℤ) (ws : List ℤ) → take (words_per_field * length (p.keys (nat_of k))) (show_all (map (seen p (own s p)) (p.keys (nat_of k))) ++ drop (words_per_field * length (p.keys (nat_of k))) ws) ≡ show_all (map (seen p (own s p)) (p.keys (nat_of k)))
  shown s k ws = take_at _ _ _ (length-show_all _ (p.keys (nat_of k)))

  same_accepted : (c : Call) → replied c p (accepted c lent p) ≡ replied c p (accepted c words p)
  unfolding accepted
  same_accepted (Load d f k v) = refl
  same_accepted (Map k n m) = refl
  same_accepted Begin = refl
  same_accepted (Read s k) = by_case (below k key_count) (λ t. rw (t, shown s k lent, shown s k words) refl) (λ t. rw t refl)
  same_accepted (Change s d f k v) = refl
  same_accepted (Commit s) = refl
  same_accepted (Abandon s) = refl
  same_accepted (Advance n) = refl
  same_accepted (Take w) = refl
  same_accepted (Apply w fate) = refl
  same_accepted (Delete w) = refl
  same_accepted (Cut w) = refl
  same_accepted Sweep = refl
  same_accepted (Store n) = refl
  same_accepted (Report s) = refl

  same_settled : (c : Call) (o : Option Refusal) → replied c p (settle o c lent p) ≡ replied c p (settle o c words p)
  unfolding answer_line
  same_settled c none = same_accepted c
  same_settled c (some r) = refl

  pub words_unseen : (c : Call) → replied c p (step c lent p) ≡ replied c p (step c words p)
  unfolding step
  words_unseen c = same_settled c (first (conditions c lent p)) ∙ ap (λ o. replied c p (settle (first o) c words p)) (same_conditions c)
