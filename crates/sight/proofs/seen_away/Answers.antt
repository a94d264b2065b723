-- `seen_away` meets its contract.
use Rattle.std.proofs.Common.{◌∙◌, ap}
use Rattle.field.specs.View.{view_field}
use Rattle.sight.proofs.SeenLaws.{seen_found, seen_shown}
use Rattle.sight.proofs.seen_away.Goals.{in-Some, in-None}
use Rattle.sight.proofs.seen_away.Goals as goal

pub returns-clause-shows : goal.returns-clause-shows
returns-clause-shows c =
    elim c.match-w.branch [
      | in-Some w ↦ seen_found _ _ _ _ _ c.back-w.result c.run.ensures.shows _ _ w.in-Some.is c.back-w.ensures.since (ap view_field w.shown-is ∙ w.run-shown.ensures.shows)
      | in-None w ↦ seen_shown _ _ _ _ _ c.back-w.result c.run.ensures.shows w.in-None.is c.back-w.ensures.shows (ap view_field w.shown-is ∙ w.field-shown.ensures.shows)
    ]
