-- `Store::follow` meets its contract. The store has the changes before c and keeps the form.
use mathlib.Core.Path.{◌≡◌}
use mathlib.Core.Bool.{true}
use mathlib.Core.List.{[], ◌∷◌}
use Rattle.rules.specs.Changes as C
use Rattle.lists.proofs.Iterators.{Folding}
use Rattle.changes.specs.View.{view_update, view_changes}
use Rattle.store.specs.View.{ranged, view_store, store_form}
use Rattle.store.proofs.Store.follow.Given as goal

abbrev pub invariant-loop-c : goal.invariant-loop-c
invariant-loop-c l = record {
  shows : Folding view_update (λ s u. ranged (C.follow s (u ∷ []))) l.c-items (ranged (C.follow (view_store l.fn.self) (view_changes l.fn.cs))) (view_store l.self) l.c-index;
  form : store_form l.fn.self ≡ true → store_form l.self ≡ true;
}
