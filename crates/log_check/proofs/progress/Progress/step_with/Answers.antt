use Rattle.std.proofs.Common.{length, sym, ap, ◌∙◌}
use Rattle.log_form.specs.Acceptance.{Made, may_come}
use Rattle.log_check.proofs.Within.{right_step}
use Rattle.log_check.proofs.progress.Progress.step_with.Goals as goal

pub returns-clause-right : goal.returns-clause-right
returns-clause-right c _ =
    let g = c.args.g.now in
    let line = c.args.line in
    let asked = c.in_ok-may_come.ensures in
    let now = c.in_ok-advance_with.ensures in
    let comes = ap (λ (m : Made). may_come g m line) asked.kept in
    let came = comes ∙ sym asked.asked ∙ c.if-not-branch.false in
    let next = c.advance_with.new.self in
    right_step g c.may_come.new.self next line c.requires.made c.know_clause.ensures
    asked.right came now.made now.closed (ap length now.table)
