-- `walk::back` meets its contract.
use borrow.Author.Rules.{rules}
use Prim.Native.Nat.{◌-◌, ◌≤◌}
use native.Mathlib.Omega.{arith}
use mathlib.Core.Path.{refl, sym}
use lib.ListN.{length}
use Rattle.keys.specs.View.{view_place}
use Rattle.changes.specs.View.{view_changes}
use Rattle.buffer.specs.batch.View.{view_batch}
use Rattle.sight.specs.walk.View.{view_walk}
use Rattle.lists.proofs.Loops.{length_mapped}
use Rattle.buffer.proofs.BufferLaws.{at_most, from_there}
use Rattle.sight.proofs.walk.WalkLaws.{walk_start, look_start, look_there, look_next, walk_found, found_since, walk_none, walk_next}
use Rattle.sight.proofs.walk.back.Goals as goal

pub walk-init : goal.walk-init
walk-init c = walk_start _ _ _ c.len-from.ensures (at_most _ (search (length_mapped, rules)))

pub loop-c-init : goal.loop-c-init
loop-c-init c = (refl, look_start (view_changes c.walk.changes) _ (omega (arith, c.len-count.ensures.counts, c.len-count.ensures.most)))

pub overflow_sub-looked : goal.overflow_sub-looked
overflow_sub-looked c =
    let h = look_there (view_changes c.walk.changes) (view_place c.args.q) (c.loop-c.c - 1) c.sets_at.ensures c.if-sets_at.true in
    omega (arith, h, c.len-count.ensures.counts)

pub overflow_add-looked : goal.overflow_add-looked
overflow_add-looked c = let w = c.walk.invariant in omega (arith, w.bound, c.loop-c.invariant.0, c.len-count.ensures.most)

pub loop-c-preserved : goal.loop-c-preserved
loop-c-preserved c = (c.loop-c.invariant.0, look_next _ _ c.loop-c-test.true c.sets_at.ensures c.loop-c.invariant.1 c.if-sets_at.false)

pub overflow_add-looked-in-walk : goal.overflow_add-looked-in-walk
overflow_add-looked-in-walk c = let w = c.walk.invariant in omega (arith, w.bound, c.loop-c.invariant.0, c.len-count.ensures.most)

pub bounds-buffer-from : goal.bounds-buffer-from
bounds-buffer-from c = let w = c.walk.invariant in omega (arith, w.short, w.there, c.if-from-eq0.false)

pub walk-preserved : goal.walk-preserved
unfolding view_batch
walk-preserved c =
    let w = c.walk in
    let n = c.len-count.ensures in
    let few : length (view_changes w.changes) ≤ 8 = omega (arith, n.counts, n.most) in
    rw (c.loop-c.invariant.0, n.counts)
    (walk_next w.invariant c.loop-c-test.false c.loop-c.invariant.1 few _ c.if-from-eq0.false (from_there _ _ (search (length_mapped, rules)) c.if-from-eq0.false w.invariant.there))

pub returns-then-sets_at : goal.returns-then-sets_at
unfolding view_walk
returns-then-sets_at c =
    let w = c.walk in
    let l = view_changes w.changes in
    let q = view_place c.args.q in
    let some = c.loop-c-test.true in
    let none = c.loop-c.invariant.1 in
    record {
      shows = rw (c.loop-c.invariant.0, c.len-count.ensures.counts) (sym (walk_found l q some c.sets_at.ensures none w.invariant c.if-sets_at.true));
      since = found_since l q some c.sets_at.ensures none w.invariant c.if-sets_at.true;
    }

pub returns-then-from-eq0 : goal.returns-then-from-eq0
unfolding view_walk
returns-then-from-eq0 c =
    let w = c.walk in
    record {
      shows = rw (c.loop-c.invariant.0, c.len-count.ensures.counts) (sym (walk_none w.invariant c.loop-c-test.false c.loop-c.invariant.1 c.if-from-eq0.true));
      since = tt;
    }
