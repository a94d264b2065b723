-- The turns of `main`: one that reads, and one that feeds what is unused.
use Rattle.std.proofs.Common.{◌≡◌, length, sym, ◌∙◌, arith}
use borrow.Author.Tests.{eqb-true}
use Rattle.kagbitu.proofs.Laws.{moved_within, used_inside, used_some, rest_inside}
use Rattle.kagbitu.proofs.Run.{ran_none, ran_read, ran_fed}
use Rattle.kagbitu.proofs.main.Goals as goal

pub loop-turns-init : goal.loop-turns-init
loop-turns-init c =
    let s = c.start-server.ensures in
    record {
      ran = ran_none _ _ c.first-part.result c.piece_buffer-piece.result (omega arith) (omega arith);
      started = record { shows = s.shows; empty = s.empty; kept = s.kept };
      inside = (omega arith, omega arith);
      piece = omega arith;
      room = omega arith;
      turns = omega arith;
    }

pub loop-turns-preserved-in-Moved : goal.loop-turns-preserved-in-Moved
loop-turns-preserved-in-Moved c =
    let l = c.loop-turns in
    let r = c.read-got in
    let w = moved_within _ _ _ r.ensures c.in-Moved.is in
    let e : l.part.at ≡ l.part.end = eqb-true l.part.at l.part.end (sym c.is_empty.ensures ∙ c.if-is_empty.true) in
    record {
      ran = ran_read _ _ _ l.part l.piece l.invariant.ran _ (omega arith) e r.new.piece _ w.0 (omega (arith, w.1)) c.first-part-in-Moved.result c.first-part-in-Moved.ensures;
      started = l.invariant.started;
      inside = (omega arith, omega (arith, w.1));
      piece = omega arith;
      room = omega arith;
      turns = omega arith;
    }

pub loop-turns-preserved : goal.loop-turns-preserved
loop-turns-preserved c =
    let l = c.loop-turns in
    let i = l.invariant in
    let t = c.serve-turn in
    let f = t.ensures in
    let o = used_some l.part l.piece i.inside (sym c.is_empty.ensures ∙ c.if-is_empty.false) t.result.server.used (length l.out) (omega arith) f.some in
    record {
      ran = ran_fed _ _ _ l.part l.piece i.ran _ (omega arith) i.started.kept _ _ f.fed o f.within.0 t.result.part f.rest;
      started = i.started;
      inside = rest_inside l.part l.piece i.inside _ t.result.part (used_inside l.part l.piece i.inside _ f.within.0) f.rest;
      piece = omega arith;
      room = omega arith;
      turns = omega arith;
    }
