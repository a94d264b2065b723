-- `shown` meets its contract.
use borrow.Author.Rules.{rules}
use mathlib.Core.Path.{sym, ◌∙◌}
use mathlib.Core.Bool.{true≢false}
use Rattle.call_read_shown.proofs.MarkedLaws.{worked_near, worked_away, marks_own, shows_own, marks_cached, shows_cached, marks_now, shows_now}
use Rattle.call_read_shown.proofs.shown.Goals.{then-not-touched+in_default, else-not-touched, then-near, else-near}
use Rattle.call_read_shown.proofs.shown.Goals as goal

pub returns-in-Some-clause-mark : goal.returns-in-Some-clause-mark
returns-in-Some-clause-mark c = search (marks_cached, c.in-Some.ensures.shows, rules)

pub returns-in-Some-clause-fields : goal.returns-in-Some-clause-fields
returns-in-Some-clause-fields c = search (shows_cached, c.in-Some.ensures.shows, rules)

pub returns-then-touched-clause-mark : goal.returns-then-touched-clause-mark
returns-then-touched-clause-mark c = search (marks_own, rules)

pub returns-then-touched-clause-fields : goal.returns-then-touched-clause-fields
returns-then-touched-clause-fields c =
    elim c.if-near.branch [
      | then-near w ↦ search (shows_own, worked_near, rules)
      | else-near w ↦ search (shows_own, worked_away, rules)
    ]

pub returns-else-touched-clause-mark : goal.returns-else-touched-clause-mark
returns-else-touched-clause-mark c =
    elim c.if-not-touched.branch [
      | then-not-touched+in_default w ↦ search (marks_now, w.in_default.ensures.shows, rules)
      | else-not-touched w ↦ absurd (true≢false (sym w.if-not-touched.false ∙ c.if-touched.false))
    ]

pub returns-else-touched-clause-fields : goal.returns-else-touched-clause-fields
returns-else-touched-clause-fields c =
    elim c.if-not-touched.branch [
      | then-not-touched+in_default w ↦
          elim c.if-near.branch [
            | then-near v ↦ search (shows_now, worked_near, w.in_default.ensures.shows, rules)
            | else-near v ↦ search (shows_now, worked_away, w.in_default.ensures.shows, rules)
          ]
      | else-not-touched w ↦ absurd (true≢false (sym w.if-not-touched.false ∙ c.if-touched.false))
    ]
