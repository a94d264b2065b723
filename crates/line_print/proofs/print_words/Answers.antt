-- `print_words` meets its contract.
use lib.IntN.{pos}
use borrow.Author.Rules.{rules}
use Rattle.line_print.proofs.LineLaws.{print_start, print_next, print_end, word_at}
use Rattle.line_print.proofs.print_words.Goals as goal

pub loop-i-init : goal.loop-i-init
loop-i-init c = search (print_start, rules)

pub loop-i-preserved : goal.loop-i-preserved
loop-i-preserved c = print_next c.loop-i.invariant (pos 0) _ _ (search rules) (search (word_at, rules)) c.word.ensures

pub returns : goal.returns
returns c = search print_end
