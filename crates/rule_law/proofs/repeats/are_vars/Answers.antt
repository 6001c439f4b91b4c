use Rattle.std.proofs.Common.{◌≡◌, length, sym, arith, ◌∙◌}
use Rattle.ground_form.specs.Meaning.{vars_of}
use Rattle.ground_form.proofs.VarsAt.{same_on, same_end}
use Rattle.rule_law.proofs.repeats.are_vars.Goals as goal

pub loop-i-preserved : goal.loop-i-preserved
loop-i-preserved c same =
    let is = c.if-not-is_at.false in
    let lt = c.loop-i-test.true in
    c.loop-i.invariant (same_on c.loop-i.i 0 c.args.vars.now (vars_of c.args.con.now) (grind arith) (c.is_at.ensures is) same)

pub returns-in-None : goal.returns-in-None
returns-in-None c none =
    let past = c.loop-i-test.false in
    let at : c.loop-i.i ≡ length c.args.vars.now = let end = c.loop-i.auto.i-end in grind arith in
    c.loop-i.invariant (rw at (same_end c.args.vars.now (vars_of c.args.con.now) (sym c.variable.ensures ∙ c.in-None.is)))
