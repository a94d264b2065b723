-- `heard` meets its contract.
use Rattle.line_server.proofs.Laws.{kept_fits, kept_count, all_in_piece, kept_and_piece}
use borrow.Author.Rules.{rules}
use Rattle.line_server.proofs.heard.Goals as goal

pub returns-then-kept-eq0 : goal.returns-then-kept-eq0
returns-then-kept-eq0 c = all_in_piece c.args.kept c.args.piece.now c.args.from c.args.to c.parse.result c.if-kept-eq0.true c.parse.ensures

pub slice_bounds-bytes-end : goal.slice_bounds-bytes-end
slice_bounds-bytes-end c = search (kept_fits, rules)

pub slice_bounds-parse-end-2 : goal.slice_bounds-parse-end-2
slice_bounds-parse-end-2 c = search (kept_count, rules)

pub returns : goal.returns
returns c = kept_and_piece c.args.kept c.args.piece.now c.args.from c.args.to c.parse-2.result c.add-whole.result c.add-whole.ensures.shows c.parse-2.ensures
