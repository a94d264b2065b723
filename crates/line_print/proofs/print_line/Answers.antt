-- `print_line` meets its contract.
use mathlib.Core.Path.{◌≡◌}
use lib.ListN.{length, take}
use borrow.Author.Rules.{rules}
use Rattle.line_print.proofs.LineLaws.{told_count, parts_written, line-ended}
use Rattle.line_print.proofs.print_line.Goals as goal

pub returns-clause-prints : goal.returns-clause-prints
returns-clause-prints c =
    let count : length (take c.args.t.count c.args.t.numbers) ≡ c.args.t.count = search (told_count, rules) in
    let written = parts_written _ _ count _ c.requires.1 _ _ _ c.refusal.ensures c.print_numbers.ensures c.print_words.ensures in
    line-ended _ _ count _ c.requires.1 _ written
