-- `Changes::run` meets its contract.
use mathlib.Core.Path.{◌∙◌, ap, sym}
use borrow.Author.Rules.{rules}
use Rattle.rules.specs.Changes as C
use Rattle.keys.specs.View.{view_place}
use Rattle.field.specs.View.{view_field}
use Rattle.lists.specs.Find.{fold}
use Rattle.lists.proofs.Iterators.{fold_start, fold_next, fold_end}
use Rattle.changes.proofs.ChangeLaws.{run_fold}
use Rattle.changes.proofs.Changes.run.Goals as goal

pub loop-c-init : goal.loop-c-init
loop-c-init c =
    record {
      shows = fold_start (run_fold _ _ _ ∙ ap (fold (C.field_after (view_place c.args.q)) (view_field c.args.f)) (sym c.shown-c-items.ensures));
      form = λ f. f;
    }

pub loop-c-preserved : goal.loop-c-preserved
loop-c-preserved c =
    let inv = c.loop-c.invariant in
    let a = c.after-now.ensures in
    record { shows = search (fold_next, rules); form = λ f. a.form (inv.form f) }

pub returns-clause-shows : goal.returns-clause-shows
returns-clause-shows c = search (fold_end, rules)
