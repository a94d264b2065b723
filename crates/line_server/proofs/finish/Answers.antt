-- `finish` meets its contract.
use native.Mathlib.Omega.{arith}
use mathlib.Core.Path.{refl}
use Rattle.line_server.proofs.Laws.{no_last, last_line_lem}
use Rattle.line_server.proofs.finish.Goals as goal

pub returns-then-is_empty-clause-serves : goal.returns-then-is_empty-clause-serves
returns-then-is_empty-clause-serves c = no_last c.args.s _ c.is_empty.ensures c.if-is_empty.true _

pub returns-then-is_empty-clause-within : goal.returns-then-is_empty-clause-within
returns-then-is_empty-clause-within c = omega arith

pub returns-then-is_empty-clause-past : goal.returns-then-is_empty-clause-past
returns-then-is_empty-clause-past c = λ k. refl

pub returns-then-is_empty-clause-short : goal.returns-then-is_empty-clause-short
returns-then-is_empty-clause-short c = λ h. record { plant = refl; pending = refl; used = refl; wrote = refl; bytes = refl }

pub returns-then-is_empty-clause-form : goal.returns-then-is_empty-clause-form
returns-then-is_empty-clause-form c = record { plant = λ f. f; pending = λ f. f }

pub returns : goal.returns
returns c =
    let f = c.feed.ensures in
    record {
      serves = last_line_lem c.args.s _ c.is_empty.ensures c.if-is_empty.false c.args.out.now _ _ f.feeds f.within f.some;
      within = f.within.1;
      past = f.past;
      short = f.short;
      form = f.form;
    }
