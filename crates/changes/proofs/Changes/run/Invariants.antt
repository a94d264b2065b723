-- `Changes::run` meets its contract.
use mathlib.Core.Path.{◌≡◌}
use mathlib.Core.Bool.{true}
use Rattle.rules.specs.Changes.{field_after, run}
use Rattle.keys.specs.View.{view_place}
use Rattle.field.specs.View.{view_field, field_form}
use Rattle.lists.proofs.Iterators.{Folding}
use Rattle.changes.specs.View.{view_update, view_changes}
use Rattle.changes.proofs.Changes.run.Given as goal

abbrev pub invariant-loop-c : goal.invariant-loop-c
invariant-loop-c l = record {
  shows : Folding view_update (field_after (view_place l.q)) l.c-items (run (view_changes l.fn.self) (view_place l.q) (view_field l.fn.f)) (view_field l.now) l.c-index;
  form : field_form l.fn.f ≡ true → field_form l.now ≡ true;
}
