-- `refuse` meets its contract.
use native.Mathlib.Omega.{arith}
use mathlib.Core.Path.{subst, sym}
use Rattle.line_format.specs.Lines.{faulty}
use Rattle.answers.specs.View.{view_refusal}
use Rattle.std.specs.Prelude.{Err}
use Rattle.line_answer.specs.Answered.{Answered}
use Rattle.line_answer.proofs.Laws.{within, lined, refused, put_front}
use Rattle.line_answer.proofs.refuse.Goals as goal

pub returns : goal.returns
returns c =
    let r = c.args.r in
    let e = c.answer.ensures in
    let put = lined (Err r) _ _ _ _ (omega arith) e.prints e.takes in
    record {
      answers = λ p room k. subst (λ b. Answered (faulty (view_refusal r)) p b p) (sym (put_front _ _ _ _ _ (put room))) (refused r p k);
      within = within _ _ _ e.takes;
      line = put;
    }
