-- `keep` meets its contract.
use Rattle.std.proofs.Common.{◌≡◌, ◌≤◌, Bool, take, drop, replicate}
use Rattle.rules.specs.Lists.{keep}
use Rattle.lists.specs.Table.{IsTest}
use Rattle.lists.proofs.keep.Given as goal

abbrev pub invariant-loop-i : goal.invariant-loop-i
invariant-loop-i g l = record {
  few : l.kept ≤ l.i;
  behind : drop l.i l.items ≡ drop l.i l.fn.items;
  front : (p : g.row.T.Denot → Bool) → IsTest g.F.Fn l.stays p → take l.kept l.items ≡ keep p (take l.i l.fn.items);
}

abbrev pub invariant-loop-x : goal.invariant-loop-x
invariant-loop-x g l = take l.x-index l.x-items ≡ replicate l.x-index l.blank
