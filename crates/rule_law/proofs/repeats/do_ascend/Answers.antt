use Rattle.std.proofs.Common.{sym, arith, ◌∙◌}
use Rattle.ground_form.specs.Meaning.{vars_of}
use Rattle.rule_law.proofs.Repeated.{no_first, first_behind, first_before}
use Rattle.rule_law.proofs.repeats.do_ascend.Goals as goal

pub returns-in-None : goal.returns-in-None
returns-in-None c h = no_first (vars_of c.args.con.now) (sym c.variable.ensures ∙ c.in-None.is)

pub returns-then-top-first : goal.returns-then-top-first
returns-then-top-first c h =
    let most = c.if-top-first.true in
    first_behind c.in-Some.first c.in-Some-end_of_rise.top (vars_of c.args.con.now) (sym c.variable.ensures ∙ c.in-Some.is) c.in-Some-end_of_rise.ensures (grind arith)

pub returns-else-top-first : goal.returns-else-top-first
returns-else-top-first c h =
    first_before c.in-Some.first c.in-Some-end_of_rise.top (vars_of c.args.con.now) (sym c.variable.ensures ∙ c.in-Some.is) c.in-Some-end_of_rise.ensures (c.is_first_before.ensures h)
