-- `Cached::after` meets its contract.
use mathlib.Core.Path.{◌≡◌}
use mathlib.Core.Bool.{true}
use lib.ListN.{get_or}
use Rattle.rules.specs.Changes as C
use Rattle.keys.specs.View.{no_place, view_key}
use Rattle.field.specs.View.{view_field}
use Rattle.changes.specs.View.{view_changes}
use Rattle.lists.specs.Find.{map_from}
use Rattle.lists.proofs.Iterators.{Placing}
use Rattle.cache.specs.cached.View.{view_cached}
use Rattle.cache.specs.cached.Form.{cached_form}
use Rattle.cache.proofs.cached.Cached.after.Given as goal

abbrev pub invariant-loop-i : goal.invariant-loop-i
invariant-loop-i l =
    record {
      made : Placing view_field (λ j f. C.run (view_changes l.cs) (get_or (view_key l.key) j no_place) f) 4 l.f-items (map_from (λ j f. C.run (view_changes l.cs) (get_or (view_key l.key) j no_place) f) 0 (view_cached l.fn.self).fields) (view_cached l.t).fields l.i;
      key : (view_cached l.t).key ≡ l.fn.self.key;
      form : cached_form l.fn.self ≡ true → cached_form l.t ≡ true;
    }
