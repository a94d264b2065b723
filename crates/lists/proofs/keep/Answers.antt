-- `keep` meets its contract.
use Rattle.std.proofs.Common.{◌+◌, ◌∙◌, ◌<◌, ◌≡◌, length, arith, sym}
use lib.Seq.{drop-set-lt}
use borrow.Rule.Slice.PartMut.{take_put}
use Rattle.lists.proofs.Loops.{take_min}
use Rattle.lists.proofs.Kept.{behind_next, kept_in, kept_out}
use Rattle.lists.proofs.keep.Goals as goal
use Rattle.lists.proofs.keep.Goals.{then-stays, else-stays}

pub loop-i-preserved : goal.loop-i-preserved
loop-i-preserved g c =
    let v = c.loop-i.invariant in
    let xs = c.args.items.now in
    let ys = c.loop-i.items in
    let d = c.index-items-i.result in
    let few = v.few in
    let h : c.loop-i.i < length ys = omega arith in
    let long : length ys ≡ length xs = omega arith in
    elim c.if-stays.branch [
      | then-stays w ↦ record {
        few = omega arith;
        behind = rw (w.items-is, drop-set-lt (c.loop-i.i + 1) ys c.loop-i.kept _ (omega arith)) (behind_next xs ys d few h long v.behind);
        front = λ p t. rw (w.items-is, w.kept-is) (kept_in xs ys d few h long v.behind w.index-items-i-then-stays.is p (sym w.if-stays.true ∙ t _ _ c.stays.ensures) (v.front p t));
      }
      | else-stays w ↦ record {
        few = omega arith;
        behind = rw w.items-is (behind_next xs ys d few h long v.behind);
        front = λ p t. rw (w.items-is, w.kept-is) (kept_out xs ys d few h long v.behind p (sym w.if-stays.false ∙ t _ _ c.stays.ensures) (v.front p t));
      }
    ]

pub returns-clause-kept : goal.returns-clause-kept
returns-clause-kept g c = λ p t.
    let i : c.loop-i.i ≡ c.min-n.result = omega arith in
    take_put c.loop-i.kept _ c.loop-i.items c.loop-x.x-items (omega (arith, c.loop-i.invariant.few)) ∙ c.loop-i.invariant.front p t ∙ rw (i, c.min-n.ensures, take_min)
