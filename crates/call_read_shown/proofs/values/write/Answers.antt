-- `write` meets its contract.
use borrow.Author.Rules.{rules}
use native.Mathlib.Omega.{arith}
use Rattle.lists.proofs.Loops.{length_mapped}
use Rattle.call_read_shown.proofs.values.ValuesLaws.{too_few, show_start, words_length, show_next, show_end}
use Rattle.call_read_shown.proofs.values.write.Goals as goal

pub returns-then-words-n : goal.returns-then-words-n
returns-then-words-n c = search (too_few, rules)

pub loop-i-init : goal.loop-i-init
loop-i-init c = search (show_start, rules)

pub slice_bounds-write-count : goal.slice_bounds-write-count
slice_bounds-write-count c = omega (arith, words_length _ _ c.len-n.ensures.shows _ c.loop-i.invariant)

pub slice_bounds-write-start : goal.slice_bounds-write-start
slice_bounds-write-start c = omega (arith, words_length _ _ c.len-n.ensures.shows _ c.loop-i.invariant)

pub loop-i-preserved : goal.loop-i-preserved
loop-i-preserved c = show_next _ _ c.len-n.ensures.shows _ c.loop-i.invariant (search rules) (search length_mapped) _ c.write.new.words c.write.ensures

pub returns : goal.returns
returns c = search (show_end, rules)
