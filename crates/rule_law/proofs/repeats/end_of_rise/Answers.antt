use Rattle.std.proofs.Common.{sym, arith, ◌∙◌}
use Rattle.ground_form.specs.Meaning.{vars_of}
use Rattle.rule_law.proofs.Repeated.{rise_on}
use Rattle.rule_law.proofs.repeats.end_of_rise.Goals as goal

pub loop-i-preserved : goal.loop-i-preserved
loop-i-preserved c top h =
    let from = c.if-x-low.false in
    c.loop-i.invariant top (rise_on c.loop-i.low top c.in-Some.x c.loop-i.i (vars_of c.args.con.now) (sym c.variable.ensures ∙ c.in-Some.is) (grind arith) h)
