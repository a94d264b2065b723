-- `ended` meets its contract.
use borrow.Author.Rules.{rules}
use Rattle.calls.proofs.Back.{back1, back2, back5}
use Rattle.calls.specs.declared.Call.TheVariants.{Read, Change, Commit, Abandon, Report}
use Rattle.entry_parts.proofs.Laws.{ends_it, ends_none}
use Rattle.entry_parts.proofs.ended.Goals as goal

pub returns-in-Read : goal.returns-in-Read
returns-in-Read c =
    let r = ends_it c.args.p _ _ (back2 Read _ _ c.in-Read.is (search rules) (search rules)) c.ended.result (c.ended.ensures.shows, c.ended.ensures.form) in
    record { shows = r.0; form = r.1 }

pub returns-in-Change : goal.returns-in-Change
returns-in-Change c =
    let r = ends_it c.args.p _ _ (back5 Change _ _ _ _ _ c.in-Change.is (search rules) (search rules) (search rules) (search rules) (search rules)) c.ended-in-Change.result (c.ended-in-Change.ensures.shows, c.ended-in-Change.ensures.form) in
    record { shows = r.0; form = r.1 }

pub returns-in-Commit : goal.returns-in-Commit
returns-in-Commit c =
    let r = ends_it c.args.p _ _ (back1 Commit _ c.in-Commit.is (search rules)) c.ended-in-Commit.result (c.ended-in-Commit.ensures.shows, c.ended-in-Commit.ensures.form) in
    record { shows = r.0; form = r.1 }

pub returns-in-Abandon : goal.returns-in-Abandon
returns-in-Abandon c =
    let r = ends_it c.args.p _ _ (back1 Abandon _ c.in-Abandon.is (search rules)) c.ended-in-Abandon.result (c.ended-in-Abandon.ensures.shows, c.ended-in-Abandon.ensures.form) in
    record { shows = r.0; form = r.1 }

pub returns-in-Report : goal.returns-in-Report
returns-in-Report c =
    let r = ends_it c.args.p _ _ (back1 Report _ c.in-Report.is (search rules)) c.ended-in-Report.result (c.ended-in-Report.ensures.shows, c.ended-in-Report.ensures.form) in
    record { shows = r.0; form = r.1 }

pub returns-in_default : goal.returns-in_default
returns-in_default c =
    let r = ends_none c.args.p c.args.c (search rules) in
    record { shows = r.0; form = r.1 }
