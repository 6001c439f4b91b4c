use Rattle.ground_expr.proofs.Stating.{says_truth}
use Rattle.ground_expr.proofs.statements.state_form.Goals as goal

pub returns : goal.returns
returns c = record { says = says_truth c.args.maker.now c.state_truth.new.m c.args.f c.truth_of.result c.in_ok-t.t c.args.want c.truth_of.ensures.truth c.in_ok-t.ensures.value c.in_ok-state_truth.ensures.says }
