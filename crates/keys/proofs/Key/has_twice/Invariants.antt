-- `Key::has_twice` meets its contract.
use Rattle.std.proofs.Common.{◌≡◌, map, drop}
use Rattle.rules.specs.Values.{twice}
use Rattle.keys.specs.View.{view_place, view_key}
use Rattle.keys.proofs.Key.has_twice.Given as goal

abbrev pub invariant-loop-i : goal.invariant-loop-i
invariant-loop-i l = twice (view_key l.fn.self) ≡ twice (map view_place (drop l.i l.places))
