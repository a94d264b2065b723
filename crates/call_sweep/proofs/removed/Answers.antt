-- `removed` meets its contract. The items of the chain are the first sixteen of the rows that may go.
use borrow.Author.Rules.{rules}
use borrow.Author.Tests.{tests}
use lib.ListN.{take}
use Rattle.std.proofs.lemmas.Iterator.{YieldsList-from_slice, YieldsList-from_take}
use Rattle.std.proofs.lemmas.Iterator.Consumers.{YieldsList-from_filter, YieldsList-at, YieldsList-turn, YieldsList-end}
use Rattle.rules.specs.Limits.{sweep_limit}
use Rattle.rules.specs.Tables.{unneeded}
use Rattle.buffer.specs.View.{view_buffer}
use Rattle.workers.specs.View.{view_hands}
use Rattle.call_sweep.proofs.Laws.{one_more, all_removed}
use Rattle.call_sweep.proofs.removed.Goals as goal

pub loop-n-preserved : goal.loop-n-preserved
loop-n-preserved c =
    let turn = YieldsList-turn (YieldsList-at c.into_iter-n-iterator.ensures.into_iter_gives (YieldsList-from_take sweep_limit (YieldsList-at c.take-going.ensures.source
    (YieldsList-from_filter _ (unneeded (view_buffer c.args.buffer) (view_hands c.args.hands)) (YieldsList-at c.filter.ensures.source
    (YieldsList-from_slice (take c.args.rows.count c.args.rows.numbers) (search rules))) c.filter.ensures.closure (λ x b q k. search (rules, tests)))) c.take-going.ensures.count))
    _ _ c.loop-n.yielded_by _ _ c.in-Some.n c.in-Some.is c.next.ensures.steps in
    one_more _ _ _ c.loop-n.invariant _ turn.0 c.push-gone.ensures.shows

pub returns : goal.returns
returns c =
    let end = YieldsList-end (YieldsList-at c.into_iter-n-iterator.ensures.into_iter_gives (YieldsList-from_take sweep_limit (YieldsList-at c.take-going.ensures.source
    (YieldsList-from_filter _ (unneeded (view_buffer c.args.buffer) (view_hands c.args.hands)) (YieldsList-at c.filter.ensures.source
    (YieldsList-from_slice (take c.args.rows.count c.args.rows.numbers) (search rules))) c.filter.ensures.closure (λ x b q k. search (rules, tests)))) c.take-going.ensures.count))
    _ _ c.loop-n.yielded_by _ _ c.in-None.is c.next.ensures.steps in
    all_removed _ _ c.loop-n.invariant end.0
