use Rattle.ground_expr.proofs.Wholes.{says_quantified}
use Rattle.ground_expr.proofs.constraints.state_quantifier.Goals as goal

pub returns : goal.returns
returns c = record { says = says_quantified c.args.maker.now c.quantified.new.maker c.state_form.new.maker c.args.kind c.args.parts.now c.in_ok-f.f c.in_ok-f.ensures.adds c.in_ok-f.ensures.form c.in_ok-state_form.ensures.says }
