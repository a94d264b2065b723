-- `feed` meets its contract: a line that says a call goes into the list, one that says none is refused, the rest of a piece is kept, and a list
-- is run.
use Prim.Native.Nat.{◌-◌, ◌+◌, ◌≤◌, ◌<◌}
use native.Mathlib.Omega.{arith}
use mathlib.Core.Path.{◌≡◌, ◌∙◌, refl}
use mathlib.Core.Logic.{◌⊎◌, inl, inr, ⊎_elim}
use lib.ListN.{length}
use lib.Seq.{length-take-le}
use borrow.Rule.Slice.PartMut.{same_len_mid}
use borrow.Author.Rules.{rules}
use Rattle.lists.proofs.Loops.{length_mapped}
use Rattle.calls.specs.View.{list_limit}
use Rattle.entry.proofs.RunAll.{few_calls}
use Rattle.line_print.specs.Line.{longest}
use Rattle.line_answer.proofs.Laws.{written, more_wrote}
use Rattle.line_server.proofs.Gathering.{line_inside}
use Rattle.line_server.proofs.Laws.{feed_start, feed_end, some_of}
use Rattle.line_server.proofs.Joined.{serve_start, serve_call, serve_run, serve_fault, serve_rest, all_served, room_all, wrote_within}
use Rattle.line_server.proofs.feed.Goals.{After-refuse-wrote, After-tell_all-wrote, then-used-piece+then-room-ge-LONGEST+then-at-lt-LIMIT+then-end-piece+in-Err+else-at-eq0, then-used-piece+then-room-ge-LONGEST+then-at-lt-LIMIT+else-end-piece+else-at-eq0-2, else-used-piece, else-used-piece-via-then-used-piece+then-room-ge-LONGEST+else-at-lt-LIMIT, else-used-piece-via-then-used-piece+else-room-ge-LONGEST, else-used-piece-via-else-used-piece}
use Rattle.line_server.proofs.feed.Goals as goal

pub loop-used-init : goal.loop-used-init
loop-used-init c = serve_start _ _ _ _ _ _ _ _ (feed_start _ _ _ _) _ c.none-calls.ensures.entries.0 c.none-calls.ensures.entries.1 _ (omega arith) _ refl

pub overflow_cast-at : goal.overflow_cast-at
overflow_cast-at c = search (c.loop-used.invariant.list.few, rules)

pub heard-said-requires : goal.heard-said-requires
heard-said-requires c = line_inside _ _ _ c.line_end-end.ensures c.if-used-piece.true

-- ── a line that says a call ──
pub overflow_sub-room : goal.overflow_sub-room
overflow_sub-room c = c.if-room-ge-LONGEST.true

pub loop-used-smaller-in-Ok : goal.loop-used-smaller-in-Ok
loop-used-smaller-in-Ok c = let i = line_inside _ _ _ c.line_end-end.ensures c.if-used-piece.true in omega (arith, i.0, c.if-end-piece.true)

pub loop-used-preserved-in-Ok : goal.loop-used-preserved-in-Ok
loop-used-preserved-in-Ok c =
    serve_call _ _ _ _ _ _ _ _ _ _ _ c.loop-used.invariant _ c.line_end-end.ensures c.if-used-piece.true c.if-end-piece.true c.if-room-ge-LONGEST.true
    _ c.empty-kept.ensures.shows c.empty-kept.ensures.form _ c.in-Ok.ensures c.if-at-lt-LIMIT.true

-- ── one that says no call: its refusal is printed, some more are filled, and as many lent ──
refused-filled : (c : After-refuse-wrote) → c.loop-used.wrote + c.refuse-wrote.result ≤ length c.loop-used.out
refused-filled c = more_wrote c.loop-used.wrote c.loop-used.out _ (wrote_within _ _ _ _ _ _ _ _ _ _ _ c.loop-used.invariant) c.refuse-wrote.ensures.within

refused-long : (c : After-refuse-wrote) → length (written c.loop-used.wrote c.loop-used.out c.refuse-wrote.new.out) ≡ length c.loop-used.out
refused-long c = same_len_mid c.loop-used.wrote (length c.loop-used.out - c.loop-used.wrote) c.loop-used.out c.refuse-wrote.new.out (search (c.refuse-wrote, rules))

pub slice_bounds-refuse-count : goal.slice_bounds-refuse-count
slice_bounds-refuse-count c = wrote_within _ _ _ _ _ _ _ _ _ _ _ c.loop-used.invariant

pub slice_bounds-refuse-start : goal.slice_bounds-refuse-start
slice_bounds-refuse-start c = let w = wrote_within _ _ _ _ _ _ _ _ _ _ _ c.loop-used.invariant in search (w, rules)

pub overflow_add-wrote : goal.overflow_add-wrote
overflow_add-wrote c = let h = refused-filled (goal.at.overflow_add-wrote c).After-refuse-wrote in search (h, rules)

pub overflow_add-used-then-at-eq0 : goal.overflow_add-used-then-at-eq0
overflow_add-used-then-at-eq0 c = search rules

pub overflow_sub-room-then-at-eq0 : goal.overflow_sub-room-then-at-eq0
overflow_sub-room-then-at-eq0 c =
    let w = (goal.at.overflow_sub-room-then-at-eq0 c).After-refuse-wrote in
    omega (arith, refused-long w, refused-filled w)

pub loop-used-smaller-then-at-eq0 : goal.loop-used-smaller-then-at-eq0
loop-used-smaller-then-at-eq0 c = let i = line_inside _ _ _ c.line_end-end.ensures c.if-used-piece.true in omega (arith, i.0, c.if-end-piece.true)

pub loop-used-preserved-then-at-eq0 : goal.loop-used-preserved-then-at-eq0
loop-used-preserved-then-at-eq0 c =
    let x = c.loop-used.invariant in
    let z = c.if-at-eq0.true in
    serve_start _ _ _ _ _ _ _ _
    (serve_fault _ _ _ _ _ _ _ _ _ _ _ x z c.if-room-ge-LONGEST.true _ c.line_end-end.ensures c.if-used-piece.true _ c.if-end-piece.true c.empty-kept-then-at-eq0.ensures.shows c.empty-kept-then-at-eq0.ensures.form c.in-Err.r c.in-Err.ensures _ _ c.refuse-wrote.ensures.line c.refuse-wrote.ensures.within (refused-long (goal.at.loop-used-preserved-then-at-eq0 c).After-refuse-wrote))
    _ x.list.entries z _ refl _ x.enough

-- ── the rest of a piece ──
pub returns-then-at-eq0-2 : goal.returns-then-at-eq0-2
returns-then-at-eq0-2 c =
    let f = serve_rest _ _ _ _ _ _ _ _ _ _ _ c.loop-used.invariant c.if-at-eq0-2.true c.if-room-ge-LONGEST.true _ c.line_end-end.ensures c.if-used-piece.true _ c.if-end-piece.false c.add-pending.ensures.shows c.add-pending.ensures.form in
    let r = feed_end c.args.s _ _ _ _ f (λ r. omega (arith, f.within.0, c.if-end-piece.false)) (λ r e. omega (arith, e, c.if-end-piece.false)) in
    record { feeds = r.0; within = r.1.0; all = r.1.1.0; some = r.1.1.1.0; past = r.1.1.1.1.0; short = r.1.1.1.1.1.0; form = r.1.1.1.1.1.1 }

-- ── nothing more is taken ──
pub returns-then-at-eq0-3 : goal.returns-then-at-eq0-3
returns-then-at-eq0-3 c =
    let x = c.loop-used.invariant in
    let z = c.if-at-eq0-3.true in
    let f = all_served _ _ _ _ _ _ _ _ _ _ _ x z in
    let e = room_all _ _ _ _ _ _ _ _ _ _ _ x z in
    -- there is too little room, or nothing is left
    let stops : (c.loop-used.room < longest) ⊎ (length c.args.piece.now ≤ c.loop-used.used) =
    elim c.if-used-piece.branch [
      | then-used-piece+then-room-ge-LONGEST+then-at-lt-LIMIT+then-end-piece+in-Err+else-at-eq0 w ↦ absurd (w.if-at-eq0.false z)
      | then-used-piece+then-room-ge-LONGEST+then-at-lt-LIMIT+else-end-piece+else-at-eq0-2 w ↦ absurd (w.if-at-eq0-2.false z)
      | else-used-piece w ↦ elim w.else-used-piece.branch [
        | else-used-piece-via-then-used-piece+then-room-ge-LONGEST+else-at-lt-LIMIT v ↦ absurd (omega (arith, z, v.if-at-lt-LIMIT.false))
        | else-used-piece-via-then-used-piece+else-room-ge-LONGEST v ↦ inl v.if-room-ge-LONGEST.false
        | else-used-piece-via-else-used-piece v ↦ inr v.if-used-piece.false
      ]
    ]
    in
    let r = feed_end c.args.s _ _ _ _ f
    (λ r. ⊎_elim (λ w. absurd (omega (arith, r, e, f.long, f.within.1, w))) (λ w. omega (arith, f.within.0, w)) stops)
    (λ r u. ⊎_elim (λ w. absurd (omega (arith, r, f.begun u, e, f.long, w))) (λ w. omega (arith, u, w)) stops)
    in
    record { feeds = r.0; within = r.1.0; all = r.1.1.0; some = r.1.1.1.0; past = r.1.1.1.1.0; short = r.1.1.1.1.1.0; form = r.1.1.1.1.1.1 }

-- ── the list is run: what was told is printed ──
told-filled : (c : After-tell_all-wrote) → c.loop-used.wrote + c.tell_all-wrote.result ≤ length c.loop-used.out
told-filled c = more_wrote c.loop-used.wrote c.loop-used.out _ (wrote_within _ _ _ _ _ _ _ _ _ _ _ c.loop-used.invariant) c.tell_all-wrote.ensures.within

told-long : (c : After-tell_all-wrote) → length (written c.loop-used.wrote c.loop-used.out c.tell_all-wrote.new.out) ≡ length c.loop-used.out
told-long c = same_len_mid c.loop-used.wrote (length c.loop-used.out - c.loop-used.wrote) c.loop-used.out c.tell_all-wrote.new.out (search (c.tell_all-wrote, rules))

pub slice_bounds-tell_all-count : goal.slice_bounds-tell_all-count
slice_bounds-tell_all-count c = wrote_within _ _ _ _ _ _ _ _ _ _ _ c.loop-used.invariant

pub slice_bounds-tell_all-start : goal.slice_bounds-tell_all-start
slice_bounds-tell_all-start c = let w = wrote_within _ _ _ _ _ _ _ _ _ _ _ c.loop-used.invariant in search (w, rules)

pub overflow_add-wrote-in-loop-used : goal.overflow_add-wrote-in-loop-used
overflow_add-wrote-in-loop-used c = let h = told-filled (goal.at.overflow_add-wrote-in-loop-used c).After-tell_all-wrote in search (h, rules)

pub overflow_sub-room-in-loop-used : goal.overflow_sub-room-in-loop-used
overflow_sub-room-in-loop-used c =
    let w = (goal.at.overflow_sub-room-in-loop-used c).After-tell_all-wrote in
    omega (arith, told-long w, told-filled w)

pub loop-used-smaller : goal.loop-used-smaller
loop-used-smaller c = let n = some_of _ c.if-at-eq0-3.false in omega (arith, n)

pub loop-used-preserved : goal.loop-used-preserved
loop-used-preserved c =
    let x = c.loop-used.invariant in
    let r = c.run_all-o in
    let l : length r.result.told ≡ list_limit = search (length_mapped, rules) in
    let n = length-take-le r.result.count r.result.told (omega (arith, l, r.ensures.counts, few_calls c.loop-used.calls x.list.entries)) ∙ r.ensures.counts in
    serve_start _ _ _ _ _ _ _ _
    (serve_run _ _ _ _ _ _ _ _ _ _ _ x (some_of _ c.if-at-eq0-3.false) _ _ _ r.ensures.runs _ n _ _ c.tell_all-wrote.ensures.lines c.tell_all-wrote.ensures.within (told-long (goal.at.loop-used-preserved c).After-tell_all-wrote))
    _ x.list.entries refl _ refl _ (search (x.enough, rules))
