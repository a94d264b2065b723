-- `Cache::up_to_date` meets its contract.
use Rattle.keys.specs.View.{view_keys}
use Rattle.changes.specs.View.{view_changes}
use Rattle.cache.proofs.CacheLaws.{Dating}
use Rattle.cache.proofs.Cache.up_to_date.Given as goal

abbrev pub invariant-loop-i : goal.invariant-loop-i
invariant-loop-i l = Dating (view_changes l.cs) (view_keys l.keys) l.initial.self l.self l.n l.i
